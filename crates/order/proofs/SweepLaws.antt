-- One turn over all nonterminals: if none took a place, none was ripe, and so all have one.
use mathlib.Core.Path.{◌≡◌, refl, sym, ◌∙◌}
use mathlib.Core.Logic.{⊎_elim}
use mathlib.Core.Bool.{Bool, true, false}
use mathlib.Core.List.{List}
use Prim.Native.Nat.{ℕ, suc, ◌+◌, ◌-◌, ◌≤◌, ◌<◌}
use native.Mathlib.Omega.{arith}
use Rattle.base.specs.Bits.{test_bit, is_subset}
use Rattle.base.proofs.Bits.{same?}
use Rattle.grammar.specs.inside.Tables.{nonterminals_in, corner_row}
use Rattle.derivation.specs.inside.Ready.{Ready}
use Rattle.order.specs.inside.Placing.{ripe_of, turn_of, Placing}
use Rattle.order.proofs.PlacingLaws.{placing-count}
use Rattle.order.proofs.StuckLaws.{stuck-full}

-- ---- the two functions
pub ripe-not : (row set a : ℕ) {b : Bool} → b ≡ test_bit set a → b ≡ true → false ≡ ripe_of row set a
unfolding ripe_of
ripe-not row set a e f = let q : test_bit set a ≡ true = sym e ∙ f in rw q

pub ripe-if : (row set a : ℕ) {b r : Bool} → b ≡ test_bit set a → b ≡ false → r ≡ is_subset row set → r ≡ ripe_of row set a
unfolding ripe_of
ripe-if row set a e f d = let q : test_bit set a ≡ false = sym e ∙ f in rw (q, d)

pub turn_up : (k n : ℕ) {up : Bool} → up ≡ true → k ≡ turn_of up k n
unfolding turn_of
turn_up k n e = rw e

pub turn-down : (k n : ℕ) {up : Bool} {r : ℕ} → up ≡ false → r ≡ n - 1 - k → r ≡ turn_of up k n
unfolding turn_of
turn-down k n e d = rw e (omega arith)

turn_below : (up : Bool) (k n : ℕ) → k < n → turn_of up k n < n
unfolding turn_of
turn_below true k n h = h
turn_below false k n h = omega arith

pub turn-named : (up : Bool) (k n : ℕ) {a m : ℕ} → a ≡ turn_of up k n → k < n → n ≡ m → a < m
turn-named up k n e h q = let l = turn_below up k n h in omega arith

-- every nonterminal has its turn
turn-of : (up : Bool) (a n : ℕ) → a < n → (k : ℕ) × (k < n) × (turn_of up k n ≡ a)
unfolding turn_of
turn-of true a n h = (a, h, refl)
turn-of false a n h = (n - suc a, omega arith, omega arith)

-- ---- in the first k turns nobody was ripe
unfoldable pub NoneRipe : List ℕ → Bool → ℕ → ℕ → ℕ → Type 0
NoneRipe t up n k set = (m : ℕ) → m < k → ripe_of (corner_row t (turn_of up m n)) set (turn_of up m n) ≡ false

pub none_yet : (t : List ℕ) (up : Bool) (n set : ℕ) → NoneRipe t up n 0 set
unfolding NoneRipe
none_yet t up n set m h = absurd (omega arith)

pub none_more : (t : List ℕ) (up : Bool) (n k set : ℕ) {a row : ℕ} {r : Bool} → NoneRipe t up n k set → a ≡ turn_of up k n → row ≡ corner_row t a
    → r ≡ ripe_of row set a → r ≡ false → NoneRipe t up n (k + 1) set
unfolding NoneRipe
none_more t up n k set {a} {row} x e q d f m h = ⊎_elim here before (same? m k)
  where
    now : ripe_of (corner_row t a) set a ≡ false
    now = rw (← q) (sym d ∙ f)

    here : m ≡ k → ripe_of (corner_row t (turn_of up m n)) set (turn_of up m n) ≡ false
    here z = rw (z, ← e) now

    before : (m ≡ k → ⊥) → ripe_of (corner_row t (turn_of up m n)) set (turn_of up m n) ≡ false
    before z = x m (omega arith)

-- so a whole turn places somebody
pub sweep-grows : (t order : List ℕ) (up : Bool) (from set count k : ℕ) {n : ℕ} → Ready t → Placing t order set count → n ≡ nonterminals_in t
    → from < nonterminals_in t → from ≤ count → (count ≡ from → NoneRipe t up n k set) → n ≤ k → from < count
unfolding NoneRipe
sweep-grows t order up from set count k {n} known inv z h l none m = ⊎_elim full (λ d. omega arith) (same? count from)
  where
    full : count ≡ from → from < count
    full e =
        let x = stuck-full t known set (λ a b. (let (j, c, d) = turn-of up a n (omega arith) in rw (← d) (none e j (omega arith)))) in
        let y = placing-count t order set count inv x in
        omega arith
