-- The machine's stacks are open stacks: every step keeps that.
use mathlib.Core.Path.{◌≡◌}
use mathlib.Core.Option.{some}
use mathlib.Core.List.{List, [], ◌∷◌}
use Prim.Native.Nat.{ℕ, suc}
use Rattle.base.proofs.Booleans.{clash}
use Rattle.grammar.specs.declared.Symbol.TheVariants.{Token, Nonterminal}
use Rattle.grammar.specs.Limits.{end_place}
use Rattle.grammar.specs.Grammar.{Grammar, facing, owner, first}
use Rattle.grammar.specs.inside.Ordered.{Ordered}
use Rattle.derivation.specs.inside.Steps.{Step, popped, matched, picked, Quiet}
use Rattle.derivation.proofs.CompiledDepth.{end_quiet}
use Rattle.filtering.specs.inside.OpenStacks.{Open, bottom, frame, Stands, inside, quiet}

-- a stack whose top calls is open
pub calls-open : {g : Grammar} {p a : ℕ} {S : List ℕ} → Stands g (p ∷ S) → facing g p ≡ Nonterminal a → Open g (owner g p) S
calls-open (inside o) e = o
calls-open (quiet (Quiet.end f q)) e = clash (cc)
calls-open (quiet (Quiet.token f q)) e = clash (cc)

-- ---- places that go on in the same production, or begin one
module _ {g : Grammar} (order : Ordered g) where
  open-first : {S : List ℕ} (a b f : ℕ) → first g a b ≡ some f → Open g a S → Open g (owner g f) S
  open-first a b f d o = rw (order.owns a b f d) o

  open-token : {S : List ℕ} (p k : ℕ) → facing g p ≡ Token k → Open g (owner g p) S → Open g (owner g (suc p)) S
  open-token p k e o = rw (order.token-on p k e) o

  pub open-call : {S : List ℕ} (p a : ℕ) → facing g p ≡ Nonterminal a → Open g (owner g p) S → Open g (owner g (suc p)) S
  open-call p a e o = rw (order.call-on p a e) o

  -- the stack under a production that is at its end
  open-pop : {a : ℕ} {S : List ℕ} → Open g a S → Stands g S
  open-pop bottom = quiet (end_quiet g order)
  open-pop (frame {p = p} {a = a} e o) = inside (open-call p a e o)

  -- a production of the start symbol over the end place
  pub stands-start : (b f : ℕ) → first g 0 b ≡ some f → Stands g (f ∷ end_place ∷ [])
  stands-start b f d = inside (open-first 0 b f d bottom)

-- ---- the machine's steps
module _ {g : Grammar} {w : List ℕ} (order : Ordered g) where
  quiet_step : {S S' : List ℕ} {i i' : ℕ} → Quiet g S → Step g w S i S' i' → Stands g S'
  quiet_step (Quiet.end e q) (popped f) = quiet q
  quiet_step (Quiet.end e q) (matched f d t) = clash (cc)
  quiet_step (Quiet.end e q) (picked b f d) = clash (cc)
  quiet_step (Quiet.token e q) (popped f) = clash (cc)
  quiet_step (Quiet.token e q) (matched f d t) = quiet q
  quiet_step (Quiet.token e q) (picked b f d) = clash (cc)
  quiet_step {i = i} Quiet.empty x = elim x [ ]

  pub stands-step : {S S' : List ℕ} {i i' : ℕ} → Stands g S → Step g w S i S' i' → Stands g S'
  stands-step (quiet q) s = quiet_step q s
  stands-step (inside o) (popped e) = open-pop order o
  stands-step (inside o) (matched {p = p} {k = k} e d t) = inside (open-token order p k e o)
  stands-step (inside o) (picked {a = a} {f = f} b e d) = inside (open-first order a b f d (frame e o))
