-- The ways through a list: what is left of it, behind the words that are indexed, gives what the whole list says.
use mathlib.Core.Path.{◌≡◌, refl, sym, ap, ◌∙◌}
use mathlib.Core.Bool.{Bool, true, false, not}
use mathlib.Core.List.{List, [], ◌∷◌, append-nil}
use mathlib.Core.Option.{none, some}
use Prim.Native.Nat.{ℕ, zero, suc, ◌+◌, ◌-◌, ◌≤◌, ◌<◌}
use native.Mathlib.Numerals.{add-one}
use native.Mathlib.Omega.{arith}
use lib.Dec.{leb}
use lib.ListN.{length, get_or, drop, replicate, get_or-replicate, drop_of_length-le}
use lib.Seq.{drop-cons, drop-drop}
use borrow.Author.Tests.{le-leb, lt-leb, eq-eqb, ne_eqb}
use Rattle.base.proofs.Booleans.{and_none}
use Rattle.splitter.specs.Classes.{class_of, letter_class, letter?}
use Rattle.splitter.specs.Listing.{max_listed, space, word_run, among?, word_first?, next?, on_blank, words_from, list_of}
use Rattle.splitter.specs.Items.{plain_word, first_listed, kind_from, word_kind}
use Rattle.splitter.specs.inside.Index.{start_count, link_count, run_of, words_at, Indexed, New, Added}
use Rattle.splitter.specs.inside.Listed.{IndexDid, ListingDid}
use Rattle.splitter.specs.declared.runs.Run.{Run}
use Rattle.splitter.specs.declared.words.Words.{Words}
use Rattle.std.specs.Prelude.{Some, None}
use Rattle.splitter.proofs.RunLaws.{run_is}
use Rattle.splitter.proofs.WordLaws.{kind-out, kind-least}
use Rattle.splitter.proofs.IndexLaws.{words-length, indexed-none, run_inside, run-after}

-- ---- what is told of a list, as an option
pub listed-yes : (list : List ℕ) (w : Words) {b : Bool} → IndexDid list w b → b ≡ true → ListingDid list (Some w)
unfolding IndexDid ListingDid
listed-yes list w d e = rw e at d

pub listed-no : (list : List ℕ) (w : Words) {b : Bool} → IndexDid list w b → b ≡ false → ListingDid list None
unfolding IndexDid ListingDid
listed-no list w d e = rw e at d

-- n words are indexed, the next one starts at i, and what is left gives what the whole list says
pub record ListedTo (list starts links : List ℕ) (n i : ℕ) : Type 0 where
  pub indexed : Indexed list starts links n
  pub start : get_or starts n 0 ≡ i
  pub fuel : ℕ
  pub enough : length list - i ≤ fuel
  pub left : words_from fuel (words_at list starts n) (drop i list) ≡ list_of list

pub list-empty : (list starts : List ℕ) → length list ≡ 0 → some (words_at list starts 0) ≡ list_of list
unfolding list_of words_at
list-empty [] starts e = refl
list-empty (b ∷ s) starts e = absurd (omega arith)

pub listed-begins : (list starts links : List ℕ) → starts ≡ replicate start_count 0 → links ≡ replicate link_count 0 → (length list ≡ 0 → ⊥)
    → ListedTo list starts links 0 0
unfolding list_of words_at
listed-begins [] starts links e q h = absurd (h refl)
listed-begins (b ∷ s) starts links e q h = record {
  indexed = indexed-none (b ∷ s) starts links e q;
  start = rw (e, get_or-replicate {A = ℕ} start_count 0 0 0 (omega arith));
  fuel = length (b ∷ s);
  enough = omega arith;
  left = refl;
}

module _ (list starts links : List ℕ) (n i : ℕ) (g : ListedTo list starts links n i) where
  no-next : next? (words_at list starts n) (drop i list) ≡ false → none ≡ list_of list
  unfolding words_from
  no-next h = go g.fuel g.left
    where
      go : (k : ℕ) → words_from k (words_at list starts n) (drop i list) ≡ list_of list → none ≡ list_of list
      go zero e = e
      go (suc k) e = rw (h, words_from) at e

  pub list-short : length list ≤ i → none ≡ list_of list
  unfolding next? word_first?
  list-short l = no-next (rw (drop_of_length-le list l))

  module _ (l : i < length list) {b c : ℕ} (q : b ≡ get_or list i 0) (k : c ≡ class_of b) where
    opened : drop i list ≡ b ∷ drop (suc i) list
    opened = rw q (drop-cons list i 0 l)

    pub bad-letter : (c ≡ letter_class → ⊥) → none ≡ list_of list
    unfolding next? word_first? letter?
    bad-letter m = no-next (rw (opened, ne_eqb (class_of b) letter_class (λ u. m (k ∙ u))))

    pub bad-many : max_listed ≤ n → none ≡ list_of list
    unfolding next?
    bad-many m =
        no-next
        (rw (le-leb max_listed (length (words_at list starts n)) (omega (arith, words-length list starts n)))
        (and_none (word_first? (drop i list))))

    module _ (f : n < max_listed) {d : ℕ} (w : d ≡ word_kind (words_at list starts n) (word_run (drop i list))) where
      fresh-or : (x : Bool) → among? (words_at list starts n) (word_run (drop i list)) ≡ x → (d ≡ plain_word → ⊥) → x ≡ true
      unfolding word_kind kind_from
      fresh-or true e m = refl
      fresh-or false e m =
          absurd (m (w ∙ (rw (append-nil (words_at list starts n)) at (kind-out first_listed (words_at list starts n) [] (word_run (drop i list)) e))))

      pub bad-twice : (d ≡ plain_word → ⊥) → none ≡ list_of list
      unfolding next?
      bad-twice m =
          let z : among? (words_at list starts n) (word_run (drop i list))
          ≡ true = fresh-or (among? (words_at list starts n) (word_run (drop i list))) refl m in
          no-next
          (rw (z, and_none (not (leb max_listed (length (words_at list starts n))))) (and_none (word_first? (drop i list))))

      none_before : (x : Bool) → among? (words_at list starts n) (word_run (drop i list)) ≡ x → d ≡ plain_word → x ≡ false
      unfolding word_kind
      none_before false e m = refl
      none_before true e m = absurd (omega (arith, kind-least first_listed (words_at list starts n) (word_run (drop i list)) e, w))

      pub new_word : d ≡ plain_word → New list starts n i
      new_word m = record {
        few = f;
        begins = omega arith;
        start = g.start;
        fresh = none_before (among? (words_at list starts n) (word_run (drop i list))) refl m;
      }

      -- the word stands there
      module _ (m : d ≡ plain_word) (t : c ≡ letter_class) {starts' links' : List ℕ} {r : Run} (p : r ≡ run_of list i)
          (a : Added list starts starts' links' n i r.end) where
        next-yes : next? (words_at list starts n) (drop i list) ≡ true
        unfolding next? word_first? letter?
        next-yes =
            let z : among? (words_at list starts n) (word_run (b ∷ drop (suc i) list)) ≡ false = rw opened at (new_word m).fresh in
            let y = lt-leb max_listed (length (words_at list starts n)) (omega (arith, words-length list starts n)) in
            rw (opened, eq-eqb (class_of b) letter_class (sym k ∙ t), y, z)

        ends : drop (length (word_run (drop i list))) (drop i list) ≡ drop r.end list
        ends =
            let z : r.end ≡ i + length (word_run (drop i list)) = rw (p, run_is list i) in
            rw z (drop-drop (length (word_run (drop i list))) i list)

        -- what is left behind the word
        follows : (j : ℕ) → words_from (suc j) (words_at list starts n) (drop i list) ≡ list_of list
            → on_blank (words_at list starts' (suc n)) (words_from j (words_at list starts' (suc n))) (drop r.end list) ≡ list_of list
        unfolding words_from
        follows j e = rw (a.words, ← ends) (rw (next-yes, words_from) at e)

        inside : r.end ≤ length list
        inside = omega (arith, run_inside list i r p (omega arith))

        -- the fuel is not at its end
        burns : {A : Type 0} → ((j : ℕ) → length list - i ≤ suc j → words_from (suc j) (words_at list starts n) (drop i list) ≡ list_of list → A) → A
        burns {A} f = go g.fuel g.enough g.left
          where
            go : (x : ℕ) → length list - i ≤ x → words_from x (words_at list starts n) (drop i list) ≡ list_of list → A
            go zero h e = absurd (omega arith)
            go (suc j) h e = f j h e

        pub list-ends : {e x : ℕ} → e ≡ r.end → e ≡ length list → x ≡ n + 1 → some (words_at list starts' x) ≡ list_of list
        unfolding on_blank
        list-ends {e} {x} u v y =
            burns
            (λ j h z.
            let w : drop r.end list ≡ [] = drop_of_length-le list {i = r.end} (omega arith) in
            rw (y, add-one n) (rw w at (follows j z)))

        module _ {e : ℕ} (u : e ≡ r.end) (v : e < length list) {x : ℕ} (y : x ≡ get_or list e 0) where
          at-blank : drop r.end list ≡ x ∷ drop (suc e) list
          at-blank = rw (← u, y) (drop-cons list e 0 v)

          pub bad-blank : (x ≡ space → ⊥) → none ≡ list_of list
          unfolding on_blank
          bad-blank z = burns (λ j h w. rw (at-blank, ne_eqb x space z) at (follows j w))

          pub listed-on : x ≡ space → ListedTo list starts' links' (n + 1) (e + 1)
          unfolding on_blank
          listed-on z =
              rw (add-one n, add-one e)
              (burns
              (λ j h w. record {
                indexed = a.indexed;
                start = a.next ∙ ap suc (sym u);
                fuel = j;
                enough = (let o : i ≤ r.end = run-after list i r p (omega arith) in omega arith);
                left = rw (at-blank, eq-eqb x space z) at (follows j w);
              }))
