-- The outcome of a start or a step: the scope's rules 1 to 5, in order.
use Rattle.std.specs.Prelude.{◌≡◌, Bool, false, ◌&&◌, not, cond, List, [], ◌∷◌, map, ℕ, suc, eqb, ltb, length}
use Rattle.std.proofs.Math.Option.{none, some}
use Rattle.base.specs.Rounds.{any_of}
use Rattle.grammar.specs.declared.Symbol.{Symbol}
use Rattle.grammar.specs.declared.Symbol.TheVariants.{Token, Nonterminal, End}
use Rattle.grammar.specs.Grammar.{Grammar, facing, admits, alternatives}
use Rattle.lookahead.specs.Configs.{Config, config}
use Rattle.lookahead.specs.Closing.{max_kept, same_list, close}
use Rattle.lookahead.specs.Order.{keep, kept}

-- FULL, an alternative, or a state of the lookahead DFA: its kept configurations
pub data Outcome : Type 0 where
  full : Outcome
  alternative : ℕ → Outcome
  state : List Config → Outcome

-- ---- tests on kept configurations
-- another alternative than c's at the same place
unfoldable pub rivals : Config → Config → Bool
rivals c d = eqb c.place d.place && not (eqb c.alternative d.alternative)

-- and over the same stack
unfoldable pub conflicts : Config → Config → Bool
unfolding rivals same_list
conflicts c d = rivals c d && same_list c.stack d.stack

-- all have alternative b
unfoldable pub agreed : ℕ → List Config → Bool
unfolding any_of
agreed b ks = not (any_of (λ (c : Config). not (eqb c.alternative b)) ks)

-- some place and stack is shared by two alternatives
unfoldable pub shared : List Config → Bool
unfolding any_of conflicts
shared ks = any_of (λ (c : Config). any_of (conflicts c) ks) ks

-- some place belongs to only one alternative
unfoldable pub settled : List Config → Bool
unfolding any_of rivals
settled ks = any_of (λ (c : Config). not (any_of (rivals c) ks)) ks

-- ---- the rules
-- rules 4 and 5
unfoldable pub resolved : List Config → Outcome
unfolding shared settled
resolved ks = cond (shared ks && not (settled ks)) full (state ks)

-- rules 2 and 3, then the others
unfoldable pub judged : List Config → Outcome
unfolding agreed resolved
judged [] = full
judged (k ∷ ks) = cond (agreed k.alternative ks) (alternative k.alternative) (resolved (k ∷ ks))

-- rule 1 for the kept configurations, then the others
unfoldable pub within_kept : List Config → Outcome
unfolding judged
within_kept ks = cond (ltb max_kept (length ks)) full (judged ks)

-- the outcome of some configurations: rule 1 for the closed set, then the others
unfoldable pub outcome : Grammar → List Config → Outcome
unfolding close kept within_kept
outcome g start = elim (close g start) [ none ↦ full | some ms ↦ within_kept (kept g ms) ]

-- ---- starts and steps
-- these first places with an empty stack, the first of them alternative b
unfoldable pub numbered : ℕ → List ℕ → List Config
numbered b [] = []
numbered b (f ∷ l) = config f b [] ∷ numbered (suc b) l

-- the start of decision a: the first place of each of its productions; alternatives count from 1
unfoldable pub start_configs : Grammar → ℕ → List Config
unfolding numbered alternatives
start_configs g a = numbered 1 (alternatives g a)

-- token t passes where this symbol is called for
unfoldable pub passes_at : Grammar → ℕ → Symbol → Bool
unfolding admits
passes_at g t (Token k) = admits g k t
passes_at g t (Nonterminal a) = false
passes_at g t End = false

-- one place on
abbrev pub onward : Config → Config
onward c = config (suc c.place) c.alternative c.stack

-- a step over token t: the kept configurations that face it, one place on
unfoldable pub step_configs : Grammar → ℕ → List Config → List Config
unfolding keep passes_at facing
step_configs g t ks = map onward (keep (λ (c : Config). passes_at g t (facing g c.place)) ks)

-- the outcome of the start of decision a
unfoldable pub start_outcome : Grammar → ℕ → Outcome
unfolding outcome start_configs
start_outcome g a = outcome g (start_configs g a)

-- the outcome of a step over token t from a state
unfoldable pub step_outcome : Grammar → ℕ → List Config → Outcome
unfolding outcome step_configs
step_outcome g t ks = outcome g (step_configs g t ks)

-- a state of decision a: its start gives it, or a step from another
pub data States (g : Grammar) (a : ℕ) : List Config → Type 0 where
  begun : {ks : List Config} → start_outcome g a ≡ state ks → States g a ks
  stepped : {ks ls : List Config} (t : ℕ) → States g a ks → step_outcome g t ks ≡ state ls → States g a ls
