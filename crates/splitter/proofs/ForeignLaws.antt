-- The first foreign byte: the search for it as a loop meets it, and that it finds the lowest place of one.
use mathlib.Core.Path.{◌≡◌, refl, sym, ◌∙◌}
use mathlib.Core.Bool.{Bool}
use mathlib.Core.List.{List, [], ◌∷◌}
use mathlib.Core.Option.{Option, none, some}
use Prim.Native.Nat.{ℕ, zero, suc, ◌+◌, ◌-◌, ◌≤◌, ◌<◌}
use native.Mathlib.Omega.{arith}
use lib.Dec.{T, eqb→eq}
use lib.ListN.{length, get_or}
use borrow.Author.Tests.{eq-eqb, ne_eqb}
use Rattle.base.specs.Lists.{AllOf}
use Rattle.base.specs.Search.{lowest_from, LowestIs}
use Rattle.base.proofs.Booleans.{true→T}
use Rattle.base.proofs.Lists.{get-below, get-get_or, get_or-get}
use Rattle.base.proofs.Lowest.{lowest-is, lowest-one, lowest-none, lowest-hit, lowest-next}
use Rattle.splitter.specs.Bytes.{IsForeign}
use Rattle.splitter.specs.Classes.{class_of, foreign, foreign?}
use Rattle.splitter.specs.Items.{first_foreign}
use Rattle.splitter.specs.Splits.{ForeignAt, byte}
use Rattle.splitter.proofs.TableLaws.{foreign-iff}

-- ---- the search, byte by byte
abbrev there : List ℕ → ℕ → Bool
there s i = foreign? (get_or s i foreign)

-- the search from i on gives what the whole search gives
abbrev pub Seeking : List ℕ → ℕ → Type 0
Seeking s i = lowest_from (there s) i (length s - i) ≡ first_foreign s

pub seek-begins : (s : List ℕ) → Seeking s 0
unfolding first_foreign
seek-begins s = let z : length s - 0 ≡ length s = omega arith in rw z

module _ (s : List ℕ) (i : ℕ) (x : Seeking s i) where
  pub seek-ends : length s ≤ i → none ≡ first_foreign s
  seek-ends l = lowest-none (there s) i (length s - i) x (omega arith)

  module _ (l : i < length s) {b c : ℕ} (q : b ≡ get_or s i 0) (k : c ≡ class_of b) where
    pub seek-here : c ≡ foreign → some i ≡ first_foreign s
    unfolding foreign?
    seek-here m = lowest-hit (there s) i (length s - i) x (omega arith) (rw (← q) (eq-eqb (class_of b) foreign (sym k ∙ m)))

    pub seek-on : (c ≡ foreign → ⊥) → Seeking s (i + 1)
    unfolding foreign?
    seek-on m = lowest-next (there s) (length s) i x l (rw (← q) (ne_eqb (class_of b) foreign (λ u. m (k ∙ u))))

-- ---- what it finds
to : (s : List ℕ) (i : ℕ) → i < length s → T (there s i) → ForeignAt s i
unfolding foreign?
to s i l t = byte (get_or s i foreign) (get-get_or s i foreign l) ((foreign-iff (get_or s i foreign)).0 (eqb→eq (class_of (get_or s i foreign)) foreign t))

from : (s : List ℕ) (i : ℕ) → ForeignAt s i → T (there s i) × (i < length s)
unfolding foreign?
from s i (byte b e f) =
    let z : get_or s i foreign ≡ b = get_or-get s i foreign e in
    (rw z (true→T (foreign? b) (eq-eqb (class_of b) foreign ((foreign-iff b).1 f))), get-below s i e)

-- THE LAW: it finds the lowest place of a foreign byte
pub first-foreign : (s : List ℕ) → LowestIs (ForeignAt s) (first_foreign s)
unfolding first_foreign
first-foreign s = lowest-is (ForeignAt s) (there s) (length s) (to s) (from s)

-- and nothing else is the lowest
pub foreign-one : (s : List ℕ) {o : Option ℕ} → LowestIs (ForeignAt s) o → first_foreign s ≡ o
foreign-one s h = lowest-one (first-foreign s) h

-- ---- lines without one
abbrev pub Clean : ℕ → Type 0
Clean b = ¬ IsForeign b

pub clean-none : (s : List ℕ) → AllOf Clean s → (i : ℕ) → ¬ ForeignAt s i
clean-none [] h i (byte b e f) = absurd (omega (arith, get-below {A = ℕ} [] i e))
clean-none (c ∷ s) (n, h) zero (byte b e f) = n (let z : c ≡ b = cc in rw z f)
clean-none (c ∷ s) (n, h) (suc i) (byte b e f) = clean-none s h i (byte b e f)

pub none-clean : (s : List ℕ) → ((i : ℕ) → ¬ ForeignAt s i) → AllOf Clean s
none-clean [] h = tt
none-clean (b ∷ s) h = ((λ f. h 0 (byte b refl f)), none-clean s (λ i x. h (suc i) (behind i x)))
  where
    behind : (i : ℕ) → ForeignAt s i → ForeignAt (b ∷ s) (suc i)
    behind i (byte c e f) = byte c e f
