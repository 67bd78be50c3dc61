-- WHAT `split` ANSWERS IS WHAT specs/Splits SAYS, AND NOTHING ELSE.
use mathlib.Core.Path.{◌≡◌, refl, sym, ◌∙◌}
use mathlib.Core.Bool.{Bool, true, false, cond}
use mathlib.Core.List.{List, ◌++◌, map}
use mathlib.Core.Logic.{◌↔◌}
use mathlib.Core.Option.{Option, none, some}
use Prim.Native.Nat.{ℕ, ◌-◌, ◌≤◌}
use native.Mathlib.Omega.{arith}
use lib.Dec.{ltb}
use lib.ListN.{length, replicate}
use borrow.Author.Tests.{ltb-true, ltb-false, lt-ltb, le-ltb}
use Rattle.base.specs.Search.{LowestIs, nothing}
use Rattle.splitter.specs.Items.{max_split, items_from, kind_of, kinds_of, first_foreign}
use Rattle.splitter.specs.Listing.{list_of}
use Rattle.splitter.specs.Splitting.{max_line, SplitAnswer, split_answer, from14, from8, on_foreign, from16, from17, splitting}
use Rattle.splitter.specs.Contract.{SplitDid}
use Rattle.splitter.specs.Cutting.{Cut, Kinds}
use Rattle.splitter.specs.List.{IsList}
use Rattle.splitter.specs.Splits.{ForeignAt, Splittable, Splits, long-line, bad-list, foreign-byte, long-note, short_row, split}
use Rattle.splitter.proofs.ForeignLaws.{first-foreign, foreign-one, clean-none, none-clean}
use Rattle.splitter.proofs.CuttingLaws.{cut_of}
use Rattle.splitter.proofs.WovenLaws.{cut-clean, cut-is}
use Rattle.splitter.proofs.KindLaws.{cut-kinds, kinds-one, kinds-length, none-some}
use Rattle.splitter.proofs.IsListLaws.{list-is, list_read}

module _ (line list row : List ℕ) where
  -- ---- what is answered is so
  module _ (ws : List (List ℕ)) (a : Splittable line list ws) where
    module _ (us : List (List ℕ)) (ks : List ℕ) (c : Cut line us) (h : Kinds ws us ks) where
      at-14 : length ks ≤ max_split → Splits line list row (from14 row ks)
      unfolding from14
      at-14 m = go (ltb (length row) (length ks)) refl
        where
          go : (t : Bool) → ltb (length row) (length ks) ≡ t
              → Splits line list row
              (cond t (split_answer 14 0 0 (replicate (length row) 0)) (split_answer 0 0 (length ks) (ks ++ replicate (length row - length ks) 0)))
          go true q = short_row ws us a c (omega (arith, kinds-length h)) (omega (arith, kinds-length h, ltb-true (length row) (length ks) q))
          go false q = split ws us ks a c h m (ltb-false (length row) (length ks) q)

      at_8 : Splits line list row (from8 row ks)
      unfolding from8
      at_8 = go (ltb max_split (length ks)) refl
        where
          go : (t : Bool) → ltb max_split (length ks) ≡ t → Splits line list row (cond t (split_answer 8 0 0 row) (from14 row ks))
          go true q = long-note ws us a c (omega (arith, kinds-length h, ltb-true max_split (length ks) q))
          go false q = at-14 (ltb-false max_split (length ks) q)

    at-16 : (o : Option ℕ) → LowestIs (ForeignAt line) o → Splits line list row (on_foreign line row ws o)
    unfolding on_foreign kinds_of
    at-16 (some i) x = foreign-byte ws i a x
    at-16 none (nothing n) =
        let c = cut_of (length line) line (omega arith) (none-clean line n) in at_8 (items_from (length line) line) (kinds_of ws line) c (cut-kinds ws c)

  at-17 : length line ≤ max_line → (o : Option (List (List ℕ))) → list_of list ≡ o → Splits line list row (from17 line row o)
  unfolding from17 from16
  at-17 l none e = bad-list l (λ ws h. none-some (sym e ∙ list_read list ws h))
  at-17 l (some ws) e = at-16 ws (record { short = l; is-list = list-is list ws e }) (first_foreign line) (first-foreign line)

  -- THE LAW: every line, list and row has an answer, the one of `splitting`
  pub splits : Splits line list row (splitting line list row)
  unfolding splitting
  splits = go (ltb max_line (length line)) refl
    where
      go : (t : Bool) → ltb max_line (length line) ≡ t → Splits line list row (cond t (split_answer 15 0 0 row) (from17 line row (list_of list)))
      go true q = long-line (ltb-true max_line (length line) q)
      go false q = at-17 (ltb-false max_line (length line) q) (list_of list) refl

  -- ---- nothing else is
  past-15 : length line ≤ max_line → from17 line row (list_of list) ≡ splitting line list row
  unfolding splitting
  past-15 l = rw (le-ltb max_line (length line) l)

  no-list : (o : Option (List (List ℕ))) → list_of list ≡ o → ((ws : List (List ℕ)) → ¬ IsList list ws) → split_answer 17 0 0 row ≡ from17 line row o
  unfolding from17
  no-list none e n = refl
  no-list (some ws) e n = absurd (n ws (list-is list ws e))

  module _ (ws : List (List ℕ)) (a : Splittable line list ws) where
    past-17 : from16 line row ws ≡ splitting line list row
    unfolding from17
    past-17 = rw (list_read list ws a.is-list) at (past-15 a.short)

    module _ (us : List (List ℕ)) (c : Cut line us) where
      past-16 : from8 row (map (kind_of ws) us) ≡ splitting line list row
      unfolding from16 on_foreign kinds_of
      past-16 =
          let n : first_foreign line ≡ none = foreign-one line (nothing (clean-none line (cut-clean c))) in
          let z : from8 row (kinds_of ws line) ≡ splitting line list row = rw n at past-17 in
          rw (cut-is c) at z

      many : length (map (kind_of ws) us) ≡ length us
      many = kinds-length (cut-kinds ws c)

      past-8 : length us ≤ max_split → from14 row (map (kind_of ws) us) ≡ splitting line list row
      unfolding from8
      past-8 m = rw (le-ltb max_split (length (map (kind_of ws) us)) (omega (arith, many))) at past-16

  only : {x : SplitAnswer} → Splits line list row x → x ≡ splitting line list row
  unfolding splitting from16 on_foreign from8 from14
  only (long-line l) = rw (lt-ltb max_line (length line) l)
  only (bad-list l n) = no-list (list_of list) refl n ∙ past-15 l
  only (foreign-byte ws at a x) = rw (foreign-one line x) at (past-17 ws a)
  only (long-note ws us a c m) = rw (lt-ltb max_split (length (map (kind_of ws) us)) (omega (arith, many ws a us c))) at (past-16 ws a us c)
  only (short_row ws us a c m l) = rw (lt-ltb (length row) (length (map (kind_of ws) us)) (omega (arith, many ws a us c))) at (past-8 ws a us c m)
  only (split ws us ks a c h m l) =
      let z : map (kind_of ws) us ≡ ks = kinds-one a.is-list.once (cut-kinds ws c) h in
      let y : from14 row ks ≡ splitting line list row = rw z at (past-8 ws a us c (omega (arith, kinds-length h))) in
      rw (le-ltb (length row) (length ks) l) at y

-- THE THEOREM: the contract of `split` says exactly what specs/Splits does
pub split-iff : (line list row : List ℕ) (number place count : ℕ) (row' : List ℕ)
    → SplitDid line list row number place count row' ↔ Splits line list row (split_answer number place count row')
split-iff line list row number place count row' = ((λ e. rw e (splits line list row)), only line list row)
