-- Rows of tokens by positions, and rows with one token more at the end.
use mathlib.Core.Path.{◌≡◌, refl}
use mathlib.Core.Option.{some}
use mathlib.Core.List.{List, [], ◌∷◌, ◌++◌}
use Prim.Native.Nat.{ℕ, zero, suc}
use lib.ListN.{get_elem?, drop}
use Rattle.base.proofs.Booleans.{clash}

-- a token that is there: the rest of the row begins with it
pub drop-of-get : (w : List ℕ) (i : ℕ) {t : ℕ} → get_elem? w i ≡ some t → drop i w ≡ t ∷ drop (suc i) w
drop-of-get [] i {t} e = cc
drop-of-get (x ∷ w) zero {t} e = cc
drop-of-get (x ∷ w) (suc i) {t} e = drop-of-get w i e

pub get-of-drop : (w : List ℕ) (i : ℕ) {t : ℕ} {v : List ℕ} → drop i w ≡ t ∷ v → (get_elem? w i ≡ some t) × (drop (suc i) w ≡ v)
get-of-drop [] zero e = (cc, cc)
get-of-drop [] (suc i) e = (cc, cc)
get-of-drop (x ∷ w) zero e = (cc, cc)
get-of-drop (x ∷ w) (suc i) e = get-of-drop w i e

-- two rows that are equal with one token more at the end are equal without
pub snoc-same : (w v : List ℕ) (t u : ℕ) → w ++ (t ∷ []) ≡ v ++ (u ∷ []) → (w ≡ v) × (t ≡ u)
snoc-same [] [] t u e = (refl, cc)
snoc-same [] (y ∷ []) t u e = clash (cc)
snoc-same [] (y ∷ z ∷ v) t u e = clash (cc)
snoc-same (x ∷ []) [] t u e = clash (cc)
snoc-same (x ∷ z ∷ w) [] t u e = clash (cc)
snoc-same (x ∷ w) (y ∷ v) t u e =
    let d : w ++ (t ∷ []) ≡ v ++ (u ∷ []) = cc in
    let h = snoc-same w v t u d in let q : x ≡ y = cc in (rw (q, h.0), h.1)

pub no-snoc : (w : List ℕ) (t : ℕ) → [] ≡ w ++ (t ∷ []) → ⊥
no-snoc [] t e = clash (cc)
no-snoc (u ∷ w) t e = clash (cc)
