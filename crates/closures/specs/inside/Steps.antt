-- What the loops of the code do, turn by turn. Internal: proofs/ says that the ends are those of Closures.
use Rattle.std.specs.Prelude.{◌≡◌, Bool, false, cond, List, ℕ, zero, suc, ◌+◌, ◌-◌, ◌≤◌, ◌<◌, length, get_or, replicate, T}
use Rattle.std.specs.Int.Bits.{bit_or}
use Rattle.base.specs.Bits.{test_bit, is_subset}
use Rattle.grammar.specs.declared.Symbol.{Symbol}
use Rattle.grammar.specs.Grammar.{Grammar, suffix}
use Rattle.grammar.specs.Limits.{max_nonterminals}
use Rattle.grammar.specs.inside.Tables.{firsts_at, corners_at, grammar_in, nonterminals_in, rule_at, TablesFit}
use Rattle.closures.specs.Closures.{passes, deriving_round, deriving?}

-- x is the set of those below n that have an empty production: one that passes though nothing else does
pub record Empties (g : Grammar) (n x : ℕ) : Type 0 where
  pub has : (a : ℕ) → T (test_bit x a) → T (deriving_round false g (test_bit 0) a)
  pub all : (a : ℕ) → a < n → T (deriving_round false g (test_bit 0) a) → T (test_bit x a)

-- x is the set of the nonterminals that derive
unfoldable pub DerivingIs : Bool → Grammar → ℕ → Type 0
DerivingIs tokens g x = (a : ℕ) → test_bit x a ≡ deriving? tokens g a

-- every member of x derives
unfoldable pub Derivers : Bool → Grammar → ℕ → Type 0
Derivers tokens g x = (a : ℕ) → T (test_bit x a) → T (deriving? tokens g a)

-- what a pass is to judge: nonterminals that there are, none of them in the set that it starts from
pub record Candidates (n candidates from : ℕ) : Type 0 where
  pub few : (a : ℕ) → T (test_bit candidates a) → a < n
  pub new : (a : ℕ) → T (test_bit candidates a) → test_bit from a ≡ false

-- what a pass makes of the set `from`: it only adds, and only what derives; if it adds nothing, no nonterminal that it judged has a production that passes
pub record Passed (tokens : Bool) (g : Grammar) (candidates from x : ℕ) : Type 0 where
  pub kept : (a : ℕ) → T (test_bit from a) → T (test_bit x a)
  pub derives : Derivers tokens g from → Derivers tokens g x
  pub closed : x ≡ from → (a : ℕ) → T (test_bit candidates a) → deriving_round tokens g (test_bit from) a ≡ false

-- what stands first in productions: only members of led, all below n, have a row that is not empty, and a nonterminal without an empty production whose row
-- misses X has no production that passes
pub record Headed (g : Grammar) (n led : ℕ) (rows : List ℕ) : Type 0 where
  pub few : (a : ℕ) → T (test_bit led a) → a < n
  pub none : (a : ℕ) → a < n → test_bit led a ≡ false → get_or rows a 0 ≡ 0
  pub first : (a : ℕ) → a < n → deriving_round false g (test_bit 0) a ≡ false → (X : ℕ → Bool)
      → ((c : ℕ) → T (test_bit (get_or rows a 0) c) → X c ≡ false) → deriving_round false g X a ≡ false

-- what the closure of those that derive the empty row begins with
pub record Gathered (t rows : List ℕ) (led empty : ℕ) : Type 0 where
  pub fits : TablesFit t
  pub long : length rows ≡ max_nonterminals
  pub headed : Headed (grammar_in t) (nonterminals_in t) led rows
  pub empties : Empties (grammar_in t) (nonterminals_in t) empty

-- where a test turns a candidate away, no production of it passes
abbrev pub TurnedAway : Bool → Grammar → ℕ → (ℕ → ℕ → Type 0) → Type 0
TurnedAway tokens g candidates Away =
    (x a : ℕ) → T (test_bit candidates a) → Away x a → deriving_round tokens g (test_bit x) a ≡ false

-- what the closure starts from: nonterminals that derive, and those to be judged; one of neither has no production that passes, whatever else does, and none of
-- those to be judged has one where a test turns it away
pub record Begins (tokens : Bool) (t : List ℕ) (judged from : ℕ) (Away : ℕ → ℕ → Type 0) : Type 0 where
  pub fits : TablesFit t
  pub derive : Derivers tokens (grammar_in t) from
  pub few : (a : ℕ) → T (test_bit judged a) → a < nonterminals_in t
  pub others : (a x : ℕ) → a < nonterminals_in t → test_bit judged a ≡ false → test_bit from a ≡ false
      → deriving_round tokens (grammar_in t) (test_bit x) a ≡ false
  pub away : (x a : ℕ) → T (test_bit judged a) → test_bit from a ≡ false → Away x a → deriving_round tokens (grammar_in t) (test_bit x) a ≡ false

-- `need` is what a set must hold for every symbol of the list to pass; said of sets that miss some nonterminal
unfoldable pub NeedIs : Bool → List Symbol → ℕ → Type 0
NeedIs tokens l need = (x a : ℕ) → a < max_nonterminals → test_bit x a ≡ false → is_subset need x ≡ passes tokens (test_bit x) l

-- rows with a word for each production: as long as the tables from firsts_at to the corners
abbrev pub row_words : ℕ
row_words = corners_at - firsts_at

-- word k of a row is for a production of a
abbrev pub Owns : List ℕ → ℕ → ℕ → Type 0
Owns t a k = (rule_at t a ≤ firsts_at + k) × (firsts_at + k < rule_at t (suc a))

-- rows of needs and of owners. In their first `count` words are all productions of the nonterminals below a that `from` does not hold, and of a's those
-- before word k
pub record Noted (tokens : Bool) (t : List ℕ) (from count a k : ℕ) (needs owners : List ℕ) : Type 0 where
  pub right : (b j : ℕ) → T (test_bit (get_or owners j 0) b)
      → (b < nonterminals_in t) × Owns t b j × NeedIs tokens (suffix (grammar_in t) (get_or t (firsts_at + j) 0)) (get_or needs j 0)
  pub below : (b j : ℕ) → b < a → test_bit from b ≡ false → Owns t b j → (j < count) × T (test_bit (get_or owners j 0) b)
  pub own : (j : ℕ) → j < k → Owns t a j → T (test_bit (get_or owners j 0) a)

-- what noting a nonterminal a starts from: tables that fit, rows of full length, and those below a noted in their first `count` words
pub record Noting (tokens : Bool) (t : List ℕ) (from count a : ℕ) (needs owners : List ℕ) : Type 0 where
  pub fits : TablesFit t
  pub named : a < nonterminals_in t
  pub used : count ≤ row_words
  pub needs-long : length needs ≡ row_words
  pub owners-long : length owners ≡ row_words
  pub noted : Noted tokens t from count a 0 needs owners

-- what noting all starts from: tables that fit, and rows of full length in which no production has an owner
pub record Unnoted (t needs owners : List ℕ) : Type 0 where
  pub fits : TablesFit t
  pub needs-long : length needs ≡ row_words
  pub owners-none : owners ≡ replicate row_words 0

-- the set x with the owners of those of the first k productions whose need it holds
unfoldable pub round_of : List ℕ → List ℕ → ℕ → ℕ → ℕ
round_of needs owners x zero = x
round_of needs owners x (suc k) = bit_or (round_of needs owners x k) (cond (is_subset (get_or needs k 0) x) (get_or owners k 0) 0)
