-- Where a nonterminal waits, the stack under it is open, and every alternative of it is reached there: so a search may go down the stack. All this goes by
-- the frames' return places alone.
use mathlib.Core.Path.{◌≡◌}
use mathlib.Core.Option.{some}
use mathlib.Core.List.{List, ◌∷◌}
use Prim.Native.Nat.{ℕ}
use Rattle.grammar.specs.Grammar.{first}
use Rattle.grammar.specs.inside.Tables.{grammar_in}
use Rattle.derivation.specs.Runs.{marked}
use Rattle.derivation.specs.inside.Steps.{Step}
use Rattle.derivation.specs.inside.Frames.{returns_of}
use Rattle.filtering.specs.inside.OpenStacks.{Open, Reached}
use Rattle.filtering.proofs.StackLaws.{calls-open}
use Rattle.filtering.proofs.PathLaws.{reached-start, reached-step}
use Rattle.machine.specs.inside.Space.{ground, opened}
use Rattle.serving.specs.inside.Aids.{Upright, begins, called}

module _ (t w ws : List ℕ) {d q a i : ℕ} where
  pub upright-open : Upright t w ws d q a i → Open (grammar_in t) a (opened t w ws d q)
  unfolding returns_of
  upright-open (begins z y x v) = rw (z, y, x) Open.bottom
  upright-open (called p y e s) = rw y (Open.frame e (calls-open s.stands e))

  pub upright-reached : Upright t w ws d q a i → (b f : ℕ) → first (grammar_in t) a b ≡ some f
      → Reached (grammar_in t) (marked w) (f ∷ opened t w ws d q) i
  unfolding returns_of
  upright-reached (begins z y x v) b f e = rw (z, y, v) (reached-start (grammar_in t) (marked w) b f (rw x at e))
  upright-reached (called p y c s) b f e = rw y (reached-step (grammar_in t) (marked w) s.stands s.reached (Step.picked b c e))

-- words with the same return places
pub upright-on : {t w ws us : List ℕ} {d q a i : ℕ} → returns_of us (ground t w) d ≡ returns_of ws (ground t w) d → Upright t w ws d q a i
    → Upright t w us d q a i
upright-on same (begins z y x v) = begins z y x v
upright-on same (called p y e s) = called p y e (record { stands = rw same s.stands; reached = rw same s.reached })
