-- What is read as a list is words with single blanks between, none twice, at most 66; and every such list is read.
use mathlib.Core.Path.{◌≡◌, refl, sym, ap, ◌∙◌}
use mathlib.Core.Bool.{Bool, true, false, not}
use mathlib.Core.List.{List, [], ◌∷◌, ◌++◌, append_assoc, append-nil}
use mathlib.Core.Option.{Option, some}
use Prim.Native.Nat.{ℕ, zero, suc, ◌≤◌, ◌<◌}
use native.Mathlib.Decide.{dec_lt}
use native.Mathlib.Omega.{arith}
use lib.Dec.{T, eqb, leb, eqb→eq, nleb→lt, T_not}
use lib.ListN.{length, drop, get_elem?, length-append, drop_of_length-le}
use lib.Seq.{drop-append_seam}
use borrow.Author.Tests.{eq-eqb, lt-leb}
use Rattle.base.specs.Rounds.{any_of}
use Rattle.base.proofs.Booleans.{and_T, true→T}
use Rattle.base.proofs.Lists.{any_of-T, T-any_of, get-below, get-front, get_seam}
use Rattle.splitter.specs.Classes.{class_of, letter_class, letter?}
use Rattle.splitter.specs.Listing.{max_listed, space, word_run, same_bytes?, among?, word_first?, next?, on_blank, words_from, list_of}
use Rattle.splitter.specs.Cutting.{IsWord}
use Rattle.splitter.specs.List.{Joined, one, more, Listed, empty, joined, Once, IsList}
use Rattle.splitter.proofs.TableLaws.{letter-iff}
use Rattle.splitter.proofs.WordLaws.{same-eq, same_refl}
use Rattle.splitter.proofs.CuttingLaws.{word-is, word-whole, word-all, word-ends}
use Rattle.splitter.proofs.KindLaws.{none-some, some_is}

-- ---- a word that is none of those before it
abbrev Fresh : List (List ℕ) → List ℕ → Type 0
Fresh ws u = (i : ℕ) → ¬ (get_elem? ws i ≡ some u)

among-fresh : (ws : List (List ℕ)) (u : List ℕ) → T (not (among? ws u)) → Fresh ws u
unfolding among?
among-fresh ws u t i q = T_not (among? ws u) t (T-any_of (λ w. same_bytes? w u) ws i q (true→T (same_bytes? u u) (same_refl u)))

fresh-among : (ws : List (List ℕ)) (u : List ℕ) → Fresh ws u → among? ws u ≡ false
unfolding among?
fresh-among ws u h = go (any_of (λ w. same_bytes? w u) ws) refl
  where
    go : (x : Bool) → any_of (λ w. same_bytes? w u) ws ≡ x → x ≡ false
    go false e = refl
    go true e =
        let f = any_of-T (λ w. same_bytes? w u) ws (true→T (any_of (λ w. same_bytes? w u) ws) e) in
        absurd (h f.0 (f.2 ∙ ap {B = Option (List ℕ)} some (same-eq f.1 u f.3)))

-- ---- none twice, with a word more
module _ (ws : List (List ℕ)) (u : List ℕ) where
  -- a place of the longer list is one of the shorter, or the last
  data Place (i : ℕ) (w : List ℕ) : Type 0 where
    before : get_elem? ws i ≡ some w → Place i w
    last : i ≡ length ws → w ≡ u → Place i w

  place : (i : ℕ) (w : List ℕ) → get_elem? (ws ++ (u ∷ [])) i ≡ some w → Place i w
  place i w e = go (dec_lt i (length ws))
    where
      go : Dec (i < length ws) → Place i w
      go (yes l) = before (sym (get-front ws (u ∷ []) i l) ∙ e)
      go (no l) =
          let z : i ≡ length ws = (let h = get-below (ws ++ (u ∷ [])) i e in omega (arith, length-append ws (u ∷ []))) in
          last z (sym (some_is (sym (get_seam ws u []) ∙ (rw z at e))))

  once-snoc : Once ws → Fresh ws u → Once (ws ++ (u ∷ []))
  once-snoc o f i j w p q = go (place i w p) (place j w q)
    where
      go : Place i w → Place j w → i ≡ j
      go (before p) (before q) = o i j w p q
      go (before p) (last y z) = absurd (f i (p ∙ ap {B = Option (List ℕ)} some z))
      go (last x y) (before q) = absurd (f j (q ∙ ap {B = Option (List ℕ)} some y))
      go (last x y) (last v z) = x ∙ sym v

once-fresh : (ws : List (List ℕ)) (u : List ℕ) (vs : List (List ℕ)) → Once (ws ++ (u ∷ vs)) → Fresh ws u
once-fresh ws u vs o i e =
    let l : i < length ws = get-below ws i e in
    let z : i ≡ length ws = o i (length ws) u (get-front ws (u ∷ vs) i l ∙ e) (get_seam ws u vs) in
    omega arith

-- ---- what is read
-- the words behind others
data Behind (acc : List (List ℕ)) (s : List ℕ) (vs : List (List ℕ)) : Type 0 where
  behind : (ws : List (List ℕ)) → vs ≡ acc ++ ws → Joined s ws → Once vs → length vs ≤ max_listed → Behind acc s vs

first_word : (s : List ℕ) → T (word_first? s) → IsWord (word_run s)
unfolding word_first? letter?
first_word [] t = absurd t
first_word (b ∷ s) t = word-is b s ((letter-iff b).0 (eqb→eq (class_of b) letter_class t))

module _ (acc : List (List ℕ)) (s w : List ℕ) (vs : List (List ℕ)) (h : IsWord w) (o : Once (acc ++ (w ∷ []))) (m : length (acc ++ (w ∷ [])) ≤ max_listed)
    (go_on : List ℕ → Option (List (List ℕ))) (f : (t : List ℕ) → go_on t ≡ some vs → Behind (acc ++ (w ∷ [])) t vs) where
  blank-joined : (r : List ℕ) → w ++ r ≡ s → on_blank (acc ++ (w ∷ [])) go_on r ≡ some vs → Behind acc s vs
  unfolding on_blank
  blank-joined [] q e =
      let z : s ≡ w = sym q ∙ append-nil w in
      let y : vs ≡ acc ++ (w ∷ []) = sym (some_is e) in
      behind (w ∷ []) y (rw z (one w h)) (rw y o) (rw y m)
  blank-joined (b ∷ t) q e = go (eqb b space) refl
    where
      then : b ≡ space → Behind (acc ++ (w ∷ [])) t vs → Behind acc s vs
      then z (behind ws y j o m) = behind (w ∷ ws) (y ∙ append_assoc acc (w ∷ []) ws) (more s w t ws (sym q ∙ ap (λ (c : ℕ). w ++ (c ∷ t)) z) h j) o m

      go : (x : Bool) → eqb b space ≡ x → Behind acc s vs
      go true y = then (eqb→eq b space (true→T (eqb b space) y)) (f t (rw y at e))
      go false y = absurd (none-some (rw y at e))

joined-from : (k : ℕ) (acc : List (List ℕ)) (s : List ℕ) (vs : List (List ℕ)) → Once acc → words_from k acc s ≡ some vs → Behind acc s vs
unfolding words_from next?
joined-from zero acc s vs o e = absurd (none-some e)
joined-from (suc k) acc s vs o e = go (next? acc s) refl (λ o' t q. joined-from k (acc ++ (word_run s ∷ [])) t vs o' q)
  where
    go : (x : Bool) → next? acc s ≡ x
        → (Once (acc ++ (word_run s ∷ [])) → (t : List ℕ) → words_from k (acc ++ (word_run s ∷ [])) t ≡ some vs → Behind (acc ++ (word_run s ∷ [])) t vs)
        → Behind acc s vs
    go false q f = absurd (none-some (rw (q, words_from) at e))
    go true q f =
        let (a, b) = and_T (word_first? s) _ (true→T (next? acc s) q) in
        let (c, d) = and_T (not (leb max_listed (length acc))) (not (among? acc (word_run s))) b in
        let l : length acc < max_listed = nleb→lt max_listed (length acc) c in
        let o' = once-snoc acc (word_run s) o (among-fresh acc (word_run s) d) in
        blank-joined acc s (word_run s) vs (first_word s a) o' (omega (arith, length-append acc (word_run s ∷ []))) (words_from k (acc ++ (word_run s ∷ [])))
        (f o') (drop (length (word_run s)) s) (word-whole s) (rw (q, words_from) at e)

-- THE LAW: what is read as a list is one
pub list-is : (s : List ℕ) (ws : List (List ℕ)) → list_of s ≡ some ws → IsList s ws
unfolding list_of
list-is [] ws e = rw (← (some_is e)) (record { listed = empty; once = λ i j w p q. absurd (none-some p); few = omega arith })
list-is (b ∷ s) ws e = go (joined-from (length (b ∷ s)) [] (b ∷ s) ws (λ i j w p q. absurd (none-some p)) e)
  where
    go : Behind [] (b ∷ s) ws → IsList (b ∷ s) ws
    go (behind vs y j o m) = record { listed = rw y (joined (b ∷ s) vs j); once = o; few = m }

-- ---- every list is read
first-yes : {w : List ℕ} → IsWord w → (t : List ℕ) → word_first? (w ++ t) ≡ true
unfolding word_first? letter?
first-yes (IsWord.word b s l x) t = eq-eqb (class_of b) letter_class ((letter-iff b).1 l)

word-long : {w : List ℕ} → IsWord w → 0 < length w
word-long (IsWord.word b s l x) = omega arith

joined-long : {s : List ℕ} {ws : List (List ℕ)} → Joined s ws → 0 < length s
joined-long (one w h) = word-long h
joined-long (more s w t ws e h j) = omega (arith, word-long h, ap length e, length-append w (space ∷ t))

next-yes : (acc : List (List ℕ)) (s w : List ℕ) → word_first? s ≡ true → word_run s ≡ w → length acc < max_listed → Fresh acc w → next? acc s ≡ true
unfolding next?
next-yes acc s w a b l f = rw (a, lt-leb max_listed (length acc) l, b, fresh-among acc w f)

read-from : (k : ℕ) (acc : List (List ℕ)) {s : List ℕ} {ws : List (List ℕ)} → Joined s ws → length s ≤ k → Once (acc ++ ws) → length (acc ++ ws) ≤ max_listed
    → words_from k acc s ≡ some (acc ++ ws)
unfolding words_from on_blank
read-from zero acc j l o m = absurd (omega (arith, joined-long j))
read-from (suc k) acc (one w h) l o m =
    let z = next-yes acc w w (rw (append-nil w) at (first-yes h [])) (word-all h) (omega (arith, length-append acc (w ∷ []))) (once-fresh acc w [] o) in
    rw (z, words_from, word-all h, drop_of_length-le w {i = length w} (omega arith))
read-from (suc k) acc (more s w t ws e h j) l o m =
    let a : word_run s ≡ w = rw e (word-ends h t) in
    let z = next-yes acc s w (rw e (first-yes h (space ∷ t))) a (omega (arith, length-append acc (w ∷ ws))) (once-fresh acc w ws o) in
    let d : drop (length w) s ≡ space ∷ t = rw e (drop-append_seam w (space ∷ t)) in
    let n : (acc ++ (w ∷ [])) ++ ws ≡ acc ++ (w ∷ ws) = append_assoc acc (w ∷ []) ws in
    let r = read-from k (acc ++ (w ∷ [])) j (omega (arith, ap length e, length-append w (space ∷ t))) (rw n o) (rw n m) in
    rw (z, words_from, a, d) (r ∙ ap {B = Option (List (List ℕ))} some n)

-- THE LAW: every list is read, and so no bytes are a list of two rows of words
pub list_read : (s : List ℕ) (ws : List (List ℕ)) → IsList s ws → list_of s ≡ some ws
unfolding list_of
list_read s ws h = go h.listed h.once h.few
  where
    whole : (s : List ℕ) {ws : List (List ℕ)} → Joined s ws → Once ws → length ws ≤ max_listed → list_of s ≡ some ws
    whole [] j o m = absurd (omega (arith, joined-long j))
    whole (b ∷ s) j o m = read-from (length (b ∷ s)) [] j (omega arith) o m

    go : {s : List ℕ} {ws : List (List ℕ)} → Listed s ws → Once ws → length ws ≤ max_listed → list_of s ≡ some ws
    go empty o m = refl
    go (joined s ws j) o m = whole s j o m
