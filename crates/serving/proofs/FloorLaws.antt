-- The open frames of a place that calls: the end place lies at the bottom, all other return places are places of the grammar. So with the end place's
-- set alone the sets of the lowest frame stand.
use mathlib.Core.Path.{◌≡◌, refl}
use mathlib.Core.List.{List, [], ◌∷◌}
use Prim.Native.Nat.{ℕ, zero, suc, ◌≤◌, ◌<◌}
use native.Mathlib.Omega.{arith}
use native.Mathlib.Decide.{dec_lt}
use lib.ListN.{length}
use Rattle.base.proofs.Booleans.{clash}
use Rattle.grammar.specs.declared.Symbol.TheVariants.{Nonterminal}
use Rattle.grammar.specs.Limits.{end_place}
use Rattle.grammar.specs.Grammar.{facing}
use Rattle.grammar.specs.inside.Tables.{grammar_in}
use Rattle.derivation.specs.Runs.{marked}
use Rattle.derivation.specs.Cells.{runs?}
use Rattle.derivation.specs.inside.Frames.{returns_of}
use Rattle.derivation.specs.inside.Ready.{Ready}
use Rattle.derivation.specs.inside.Entries.{Entry, Below, ground, wait, Open, inside, quiet}
use Rattle.derivation.specs.inside.Entries.{FramesOpen}
use Rattle.derivation.proofs.ReadyLaws.{ready_call, ready-next}
use Rattle.derivation.proofs.MarkedCells.{derives-inside}
use Rattle.machine.specs.inside.Frames.{FramesBelow, frame_has, Good}
use Rattle.machine.proofs.MoveLaws.{quiet-calls}
use Rattle.serving.specs.inside.Sets.{return_at, Floored}

module _ (t : List ℕ) (h : Ready t) (ws : List ℕ) (base : ℕ) where
  below-floored : {S : List ℕ} {E : List Entry} {c i : ℕ} → Below (grammar_in t) (end_place ∷ []) S E c i → (d : ℕ) → returns_of ws base d ≡ S
      → Floored (grammar_in t).size ws base d
  unfolding returns_of
  below-floored ground zero e = clash (cc)
  below-floored ground (suc zero) e = record { some = omega arith; bottom = cc; places = λ k l m. absurd (omega arith) }
  below-floored ground (suc (suc d)) e = clash (cc)
  below-floored (wait x f y) zero e = clash (cc)
  below-floored (wait {p = p} {c = c} x f y) (suc d) e =
      let z = below-floored y d (cc) in
      let top : return_at ws base d ≡ suc p = cc in
      let next = ready-next t h p (ready_call t h p c f) (λ q. clash (cc)) in
      record { some = omega arith; bottom = z.bottom; places = λ k l m. pick k l m top next z.places (dec_lt k d) }
    where
      pick : (k : ℕ) → 1 ≤ k → k < suc d → return_at ws base d ≡ suc p → suc p < (grammar_in t).size
          → ((k : ℕ) → 1 ≤ k → k < d → return_at ws base k < (grammar_in t).size) → Dec (k < d) → return_at ws base k < (grammar_in t).size
      pick k l m top next rec (yes q) = rec k l q
      pick k l m top next rec (no q) = let u : k ≡ d = omega arith in rw (u, top) next

  -- of a place that calls
  pub held-floored : {n p a i d : ℕ} → FramesOpen (grammar_in t) (end_place ∷ []) n ws base d p i → facing (grammar_in t) p ≡ Nonterminal a
      → Floored (grammar_in t).size ws base d
  held-floored {n} {p} {a} {i} {d} x e = go x refl
    where
      go : {S : List ℕ} → Open (grammar_in t) (end_place ∷ []) n S i → S ≡ p ∷ returns_of ws base d → Floored (grammar_in t).size ws base d
      go (inside l x y) q = below-floored y d (cc)
      go (quiet x l) q = absurd (quiet-calls x q e)

  -- the end place's set alone
  pub good-floor : (w : List ℕ) → ((m : ℕ) → m ≤ length w → frame_has ws base 0 m ≡ runs? (grammar_in t) (marked w) (returns_of ws base 1) m)
      → (d p i : ℕ) → p < (grammar_in t).size → i ≤ length w → ((k : ℕ) → 1 ≤ k → k < d → return_at ws base k < (grammar_in t).size)
      → Good (grammar_in t) (marked w) ws base (FramesBelow 1) d p i
  unfolding Good
  good-floor w right zero p i l k q = tt
  good-floor w right (suc zero) p i l k q = λ m x. (λ _. right m (derives-inside t h w p i m l k x), tt)
  good-floor w right (suc (suc d)) p i l k q = λ m x. (
    λ z. absurd (omega arith),
    good-floor w right (suc d) (return_at ws base (suc d)) m (q (suc d) (omega arith) (omega arith)) (derives-inside t h w p i m l k x)
        (λ j a b. q j a (omega arith)),
  )
