-- What the check says of rules, in the textbook's words: 7 names the lowest left recursive nonterminal; if there is none, 6 names the lowest that derives no
-- row of tokens; and sound rules have neither.
use Rattle.std.specs.Prelude.{ℕ, ◌≤◌, ◌<◌, length, Ok, Err}
use Rattle.number.specs.declared.Refusal.TheVariants.{Unproductive, LeftRecursive as Recursive}
use Rattle.grammar.specs.Decode.{Rules}
use Rattle.grammar.specs.Derivation.{of_rules}
use Rattle.closures.specs.Textbook.{Productive, LeftRecursive}
use Rattle.soundness.specs.Verdict.{Verdict}

-- sound rules: every nonterminal derives some row of tokens, and none is left recursive
pub record IsSound (r : Rules) : Type 0 where
  pub productive : (a : ℕ) → a < length r.productions → Productive (of_rules r) a
  pub straight : (a : ℕ) → ¬ LeftRecursive (of_rules r) a

-- a nonterminal that derives no row of tokens
abbrev pub Barren : Rules → ℕ → Type 0
Barren r a = (a < length r.productions) × ¬ Productive (of_rules r) a

-- the lowest number with a property
abbrev pub Lowest : (ℕ → Type 0) → ℕ → Type 0
Lowest P a = P a × ((c : ℕ) → P c → a ≤ c)

-- what a verdict on rules means: 6 is asked only where no nonterminal is left recursive
pub data Means (r : Rules) : Verdict → Type 0 where
  sound : IsSound r → Means r (Ok tt)
  recursive : (a : ℕ) → Lowest (LeftRecursive (of_rules r)) a → Means r (Err (Recursive a))
  barren : (a : ℕ) → ((c : ℕ) → ¬ LeftRecursive (of_rules r) c) → Lowest (Barren r) a → Means r (Err (Unproductive a))
