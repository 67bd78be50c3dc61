-- Stretches of a note: its first tokens, the tokens between two positions, and notes that begin alike.
use mathlib.Core.Path.{◌≡◌, refl, sym, ap, ◌∙◌}
use mathlib.Core.Option.{some}
use mathlib.Core.List.{List, [], ◌∷◌, ◌++◌}
use Prim.Native.Nat.{ℕ, zero, suc, ◌≤◌, ◌<◌}
use native.Mathlib.Omega.{arith}
use lib.ListN.{length, get_elem?, take, drop, take-append-drop}
use lib.Seq.{slice, take-take, length-take-le}
use Rattle.base.proofs.Booleans.{clash}
use Rattle.base.proofs.Lists.{get-below}
use Rattle.derivation.proofs.Notes.{drop-of-get}

-- ---- single tokens
pub get_take : (j i : ℕ) (w : List ℕ) → i < j → get_elem? (take j w) i ≡ get_elem? w i
get_take zero i w h = absurd (omega arith)
get_take (suc j) i [] h = refl
get_take (suc j) zero (x ∷ w) h = refl
get_take (suc j) (suc i) (x ∷ w) h = get_take j i w (omega arith)

pub get-append : (u v : List ℕ) (i : ℕ) → i < length u → get_elem? (u ++ v) i ≡ get_elem? u i
get-append [] v i h = absurd (omega arith)
get-append (x ∷ u) v zero h = refl
get-append (x ∷ u) v (suc i) h = get-append u v i (omega arith)

pub get_in : (w : List ℕ) (i : ℕ) → i < length w → (t : ℕ) × (get_elem? w i ≡ some t)
get_in [] i h = absurd (omega arith)
get_in (x ∷ w) zero h = (x, refl)
get_in (x ∷ w) (suc i) h = get_in w i (omega arith)

-- ---- the first tokens, and the tokens from one position up to another
pub take_get : (w : List ℕ) (i : ℕ) {t : ℕ} → get_elem? w i ≡ some t → take (suc i) w ≡ take i w ++ (t ∷ [])
take_get [] i e = clash (cc)
take_get (x ∷ w) zero e = cc
take_get (x ∷ w) (suc i) e = ap {B = List ℕ} (λ l. x ∷ l) (take_get w i e)

pub slice_get : (w : List ℕ) (i j : ℕ) {t : ℕ} → get_elem? w i ≡ some t → i < j → slice i j w ≡ t ∷ slice (suc i) j w
slice_get w i j e h = drop-of-get (take j w) i (get_take j i w h ∙ e)

drop-take-drop : (i m : ℕ) (l : List ℕ) → i ≤ m → drop i (take m l) ++ drop m l ≡ drop i l
drop-take-drop zero m l h = take-append-drop m l
drop-take-drop (suc i) zero l h = absurd (omega arith)
drop-take-drop (suc i) (suc m) [] h = refl
drop-take-drop (suc i) (suc m) (x ∷ l) h = drop-take-drop i m l (omega arith)

pub slice-append : (w : List ℕ) (i m j : ℕ) → i ≤ m → m ≤ j → slice i m w ++ slice m j w ≡ slice i j w
slice-append w i m j h k = rw (← take-take m j w k) (drop-take-drop i m (take j w) h)

pub take-slice : (w : List ℕ) (i j : ℕ) → i ≤ j → take i w ++ slice i j w ≡ take j w
take-slice w i j h = rw (← take-take i j w h) (take-append-drop i (take j w))

-- ---- two notes that begin alike: their first k tokens are the same, position by position
abbrev pub Alike : List ℕ → List ℕ → ℕ → Type 0
Alike w w' k = (n : ℕ) → n < k → get_elem? w n ≡ get_elem? w' n

pub alike-take : (w v : List ℕ) (k : ℕ) → k ≤ length w → Alike (take k w ++ v) w k
alike-take w v k h n l = get-append (take k w) v n (omega (arith, length-take-le k w h)) ∙ get_take k n w l

-- a position of one note, up to which another begins alike, is a position of the other
pub alike-in : (w w' : List ℕ) (k i : ℕ) → i ≤ k → Alike w w' k → i ≤ length w → i ≤ length w'
alike-in w w' k zero l h b = omega arith
alike-in w w' k (suc i) l h b = let (t, e) = get_in w i (omega arith) in get-below w' i (sym (h i l) ∙ e)
