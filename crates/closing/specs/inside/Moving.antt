-- What the code's moves rely on.
use Rattle.std.specs.Prelude.{◌≡◌, false, List, [], ℕ, ◌+◌, ◌≤◌, ◌<◌, length, drop}
use Rattle.grammar.specs.Limits.{end_place}
use Rattle.grammar.specs.Grammar.{Grammar, facing}
use Rattle.grammar.specs.inside.Tables.{nonterminals_in, table_words}
use Rattle.derivation.specs.inside.Ready.{Ready}
use Rattle.lookahead.specs.Configs.{calls?, behind_from}
use Rattle.configurations.specs.declared.config.Packed.{Packed}
use Rattle.configurations.specs.inside.Packed.{config_of, Exact}
use Rattle.configurations.specs.inside.Held.{Room}

-- the tables of a sound grammar, room for members, and an exact configuration
pub record Movable (t ms : List ℕ) (n : ℕ) (c : Packed) : Type 0 where
  pub ready : Ready t
  pub room : Room ms n
  pub exact : Exact c

-- c stands before nonterminal a, which the tables have
pub record BeforeCall (t : List ℕ) (c : Packed) (a : ℕ) : Type 0 where
  pub before : (config_of c).place < end_place
  pub named : a < nonterminals_in t

-- c has an empty stack, so it returns to an unknown caller of nonterminal a; a is small enough for a symbol's code
pub record Unknown (c : Packed) (a : ℕ) : Type 0 where
  pub empty : (config_of c).stack ≡ []
  pub small : a < 64

-- the places that a search for a nonterminal's occurrences passes over at once
abbrev pub block_places : ℕ
block_places = 4

-- none of a block of places, from p on, faces nonterminal a
pub record Uncalled (g : Grammar) (a p : ℕ) : Type 0 where
  pub first : calls? a (facing g p) ≡ false
  pub second : calls? a (facing g (p + 1)) ≡ false
  pub third : calls? a (facing g (p + 2)) ≡ false
  pub fourth : calls? a (facing g (p + 3)) ≡ false

-- nonterminal a is sought from place p on, before n
pub record Seeks (t : List ℕ) (p n a : ℕ) : Type 0 where
  pub ready : Ready t
  pub from : p ≤ n
  pub few : n ≤ end_place
  pub small : a < 64

-- there is no occurrence of a from place p on before q
pub record Sought (g : Grammar) (a p n q : ℕ) : Type 0 where
  pub from : p ≤ q
  pub to : q ≤ n
  pub same : behind_from a p (drop p g.places) ≡ behind_from a q (drop q g.places)

-- one look at place p for nonterminal a
pub record LooksAt (t : List ℕ) (p a : ℕ) : Type 0 where
  pub long : length t ≡ table_words
  pub within : p ≤ end_place
  pub small : a < 64
