-- The ways out of splitting, each one case of `splitting`.
use mathlib.Core.Path.{◌≡◌, refl, sym, ap, ◌∙◌}
use mathlib.Core.List.{List, ◌++◌}
use mathlib.Core.Option.{Option as Found, none, some}
use Prim.Native.Nat.{ℕ, ◌-◌, ◌≤◌, ◌<◌}
use native.Mathlib.Omega.{arith}
use lib.ListN.{length, take, replicate}
use lib.Seq.{length-take-le}
use borrow.Author.Tests.{lt-ltb, le-ltb}
use Rattle.std.specs.Prelude.{Option, Some, None}
use Rattle.splitter.specs.Listing.{list_of}
use Rattle.splitter.specs.Items.{max_split, kinds_of, first_foreign}
use Rattle.splitter.specs.Splitting.{max_line, split_answer, from14, from8, on_foreign, from16, from17, splitting}
use Rattle.splitter.specs.Contract.{SplitDid}
use Rattle.splitter.specs.inside.Index.{words_at}
use Rattle.splitter.specs.inside.Listed.{ListingDid}
use Rattle.splitter.specs.inside.Cut.{scan_of, CutDid}
use Rattle.splitter.specs.declared.words.Words.{Words}

-- what a search found
abbrev found : Option ℕ → Found ℕ
found None = none
found (Some at) = some at

found_of : (o : Found ℕ) → found (scan_of o) ≡ o
found_of none = refl
found_of (some at) = refl

module _ (line row : List ℕ) (ws : List (List ℕ)) {r : Option ℕ} (e : r ≡ scan_of (first_foreign line)) where
  found-is : {x : Option ℕ} → r ≡ x → first_foreign line ≡ found x
  found-is q = sym (found_of (first_foreign line)) ∙ ap found (sym e ∙ q)

  pub answer-16 : {at : ℕ} → r ≡ Some at → split_answer 16 at 0 row ≡ from16 line row ws
  unfolding from16 on_foreign
  answer-16 q = rw (found-is q)

  module _ (q : r ≡ None) (x : Option ℕ) (kinds : List ℕ) (d : CutDid ws line x kinds) where
    on : from8 row (kinds_of ws line) ≡ from16 line row ws
    unfolding from16 on_foreign
    on = rw (found-is q)

    pub answer-8 : x ≡ None → split_answer 8 0 0 row ≡ from16 line row ws
    unfolding from8 CutDid
    answer-8 m =
        let y : CutDid ws line None kinds = rw m at d in
        let z = lt-ltb max_split (length (kinds_of ws line)) y.0 in
        rw z at on

    module _ {k : ℕ} (m : x ≡ Some k) where
      cut-did : CutDid ws line (Some k) kinds
      cut-did = rw m at d

      pub cut-few : k ≤ length kinds
      unfolding CutDid
      cut-few = let y = cut-did in omega (arith, y.0, y.2)

      count : length (kinds_of ws line) ≡ k
      unfolding CutDid
      count = let y = cut-did in rw (← y.1) (length-take-le k kinds cut-few)

      enough : from14 row (kinds_of ws line) ≡ from16 line row ws
      unfolding from8 CutDid
      enough =
          let y = cut-did in
          let z = le-ltb max_split (length (kinds_of ws line)) (omega (arith, y.0, count)) in
          rw z at on

      pub answer-14 : length row < k → {row' : List ℕ} → row' ≡ take 0 row ++ replicate (length row - 0) 0 → split_answer 14 0 0 row' ≡ from16 line row ws
      unfolding from14
      answer-14 l {row'} a =
          let z = lt-ltb (length row) (length (kinds_of ws line)) (omega (arith, count)) in
          let w : length row - 0 ≡ length row = omega arith in
          rw (a, w) (rw z at enough)

      pub answer-0 : k ≤ length row → {row' : List ℕ} → row' ≡ take k kinds ++ replicate (length row - k) 0 → split_answer 0 0 k row' ≡ from16 line row ws
      unfolding from14 CutDid
      answer-0 l {row'} a =
          let y = cut-did in
          let z = le-ltb (length row) (length (kinds_of ws line)) (omega (arith, count)) in
          let v : split_answer 0 0 (length (kinds_of ws line)) (kinds_of ws line ++ replicate (length row - length (kinds_of ws line)) 0) ≡ from16 line row ws =
          rw z at enough in
          let w : split_answer 0 0 k (kinds_of ws line ++ replicate (length row - k) 0) ≡ from16 line row ws = rw count at v in
          rw (a, y.1) w

-- ---- the list, and the line's length
pub answer-15 : (line list row : List ℕ) → max_line < length line → SplitDid line list row 15 0 0 row
unfolding splitting
answer-15 line list row l = rw (lt-ltb max_line (length line) l)

module _ (line list row : List ℕ) (l : length line ≤ max_line) (x : Option Words) (d : ListingDid list x) where
  split-on : from17 line row (list_of list) ≡ splitting line list row
  unfolding splitting
  split-on = rw (le-ltb max_line (length line) l)

  pub answer-17 : x ≡ None → SplitDid line list row 17 0 0 row
  unfolding from17 ListingDid
  answer-17 e =
      let z : none ≡ list_of list = rw e at d in
      rw (← z) at split-on

  module _ {w : Words} (e : x ≡ Some w) where
    pub answer-on : {a b c : ℕ} {row' : List ℕ} → split_answer a b c row' ≡ from16 line row (words_at w.list.now w.starts w.count)
        → SplitDid line list row a b c row'
    unfolding from17 ListingDid
    answer-on q =
        let listed : ListingDid list (Some w) = rw e at d in
        let z : from16 line row (words_at list w.starts w.count) ≡ splitting line list row = rw (← listed.1) at split-on in
        q ∙ ap (λ (s : List ℕ). from16 line row (words_at s w.starts w.count)) listed.0 ∙ z
