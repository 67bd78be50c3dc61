-- A line that is cut: none of its bytes is foreign, it is its items and the blanks between them, and its items are those that are found.
use mathlib.Core.Path.{◌≡◌, refl, ap, ◌∙◌}
use mathlib.Core.List.{List, [], ◌∷◌, ◌++◌}
use mathlib.Core.Logic.{◌⊎◌, inl, inr}
use Prim.Native.Nat.{ℕ, suc}
use native.Mathlib.Omega.{arith}
use lib.ListN.{length}
use Rattle.base.specs.Lists.{AllOf}
use Rattle.base.proofs.Lists.{all_append, all_map}
use Rattle.splitter.specs.Bytes.{IsLetter, IsDigit}
use Rattle.splitter.specs.Listing.{space}
use Rattle.splitter.specs.Items.{point, items_from}
use Rattle.splitter.specs.Cutting.{IsWord, Digits, digits, whole, pointed, IsItem, Cut, end, blank, item, woven, Woven}
use Rattle.splitter.proofs.ForeignLaws.{Clean}
use Rattle.splitter.proofs.CuttingLaws.{cut_of, cut-one}

-- ---- no foreign byte
letter-clean : (b : ℕ) → IsLetter b → Clean b
letter-clean b l f = f.no-letter l

digit-clean : (b : ℕ) → IsDigit b → Clean b
digit-clean b l f = f.no_digit l

word-clean : (b : ℕ) → IsLetter b ⊎ IsDigit b → Clean b
word-clean b (inl l) = letter-clean b l
word-clean b (inr l) = digit-clean b l

space-clean : Clean space
space-clean f = f.no-blank refl

point-clean : Clean point
point-clean f = f.no-mark (record { least = omega arith; most = omega arith; no-letter = no; no_digit = λ l. (omega arith) })
  where
    no : IsLetter point → ⊥
    no (inl l) = omega arith
    no (inr l) = omega arith

digits-clean : {u : List ℕ} → Digits u → AllOf Clean u
digits-clean (digits b s l x) = (digit-clean b l, all_map digit-clean s x)

item-clean : {u : List ℕ} → IsItem u → AllOf Clean u
item-clean (IsItem.word (IsWord.word b s l x)) = (letter-clean b l, all_map word-clean s x)
item-clean (IsItem.number (whole x)) = digits-clean x
item-clean (IsItem.number (pointed d e x y q)) = rw q (all_append Clean d (point ∷ e) (digits-clean x) (point-clean, digits-clean y))
item-clean (IsItem.mark b m q) = rw q ((λ f. f.no-mark m), tt)

-- THE LAW: a line that is cut has no foreign byte
pub cut-clean : {s : List ℕ} {us : List (List ℕ)} → Cut s us → AllOf Clean s
cut-clean end = tt
cut-clean (blank s us x) = (space-clean, cut-clean x)
cut-clean (item s u t us q i m x) = rw (← q) (all_append Clean u t (item-clean i) (cut-clean x))

-- THE LAW: its items are those that are found
pub cut-is : {s : List ℕ} {us : List (List ℕ)} → Cut s us → items_from (length s) s ≡ us
cut-is {s} x = cut-one (cut_of (length s) s (omega arith) (cut-clean x)) s refl x

-- ---- the line again
one-blank : {s : List ℕ} {us : List (List ℕ)} → Woven s us → Woven (space ∷ s) us
unfolding woven
one-blank {s} {us} w = go us w.gaps w.each w.whole
  where
    go : (us : List (List ℕ)) (gaps : List ℕ) → length gaps ≡ length us → woven gaps us w.last ≡ s → Woven (space ∷ s) us
    go [] [] e q = record { gaps = []; last = suc w.last; each = refl; whole = ap (λ (r : List ℕ). space ∷ r) q }
    go (u ∷ us) (n ∷ gaps) e q = record { gaps = suc n ∷ gaps; last = w.last; each = e; whole = ap (λ (r : List ℕ). space ∷ r) q }
    go [] (n ∷ gaps) e q = absurd (omega arith)
    go (u ∷ us) [] e q = absurd (omega arith)

-- THE LAW: it is its items and the blanks between them
pub cut-woven : {s : List ℕ} {us : List (List ℕ)} → Cut s us → Woven s us
unfolding woven
cut-woven end = record { gaps = []; last = 0; each = refl; whole = refl }
cut-woven (blank s us x) = one-blank (cut-woven x)
cut-woven (item s u t us q i m x) =
    let w = cut-woven x in
    record { gaps = 0 ∷ w.gaps; last = w.last; each = ap suc w.each; whole = ap (λ (r : List ℕ). u ++ r) w.whole ∙ q }
