-- Pairs that have a place in the words of a search.
use Rattle.std.specs.Prelude.{List, ℕ, ◌/◌, ◌%◌, ◌≤◌, ◌<◌, length}
use Rattle.grammar.specs.Limits.{max_nonterminals}
use Rattle.derivation.specs.Space.{max_tokens}
use Rattle.search.specs.inside.Words.{per_alternative, search_words}
use Rattle.search.specs.declared.words.Size.{Size}
use Rattle.search.specs.declared.words.Pair.{Pair}

-- no more nonterminals and tokens than a grammar and a note may have
pub record Small (s : Size) : Type 0 where
  pub names : s.nonterminals ≤ max_nonterminals
  pub tokens : s.n ≤ max_tokens

-- a pair of those
pub record PairOf (s : Size) (p : Pair) : Type 0 where
  pub small : Small s
  pub nonterminal : p.nonterminal < s.nonterminals
  pub position : p.position ≤ s.n

-- the words of the search are there
abbrev pub Room : Size → List ℕ → Type 0
Room s ws = search_words s.nonterminals s.n ≤ length ws

-- and those of a pair among them
pub record Placed (s : Size) (p : Pair) (ws : List ℕ) : Type 0 where
  pub pair : PairOf s p
  pub room : Room s ws

-- a pair that waits as one number
abbrev pub pair_in : ℕ → Pair
pair_in x = record { nonterminal = x % per_alternative; position = x / per_alternative }
