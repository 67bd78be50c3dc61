-- The compiled tables: a grammar in words of 16 bits. Every reader is total: any words at all say a grammar.
--   from 0           the places, the end place last: the symbol's code, and above it the owner
--   from firsts_at    the first place of each production, in the order of the bytes
--   from rules_at     for each nonterminal the number of its first production, counted over all; behind the last, the number of productions
--   from kinds_at     the highest kind, the number of nonterminals, the number of places
--   from corners_at   for each nonterminal the set of its left corners, 32 bits in two words: no part of the grammar, but worked out of it by the check
use Rattle.std.specs.Prelude.{◌≡◌, ℕ, suc, ◌+◌, ◌-◌, ◌*◌, ◌/◌, ◌%◌, ◌≤◌, ◌<◌, List, [], ◌∷◌, map, cond, length, get_or, set, take, eqb}
use Rattle.std.proofs.Math.Seq.{slice}
use Rattle.base.specs.Rounds.{up_from}
use Rattle.grammar.specs.Types.{Symbol, Token, Nonterminal, End, Place}
use Rattle.grammar.specs.Limits.{max_nonterminals, max_places, end_place, nobody}
use Rattle.grammar.specs.Grammar.{Grammar, facing, owner}

-- the words that hold places, the end place among them
abbrev pub place_words : ℕ
place_words = suc end_place

-- the words that hold the numbers of first productions, and behind the last the number of productions
abbrev pub rule_words : ℕ
rule_words = suc max_nonterminals

abbrev pub firsts_at : ℕ
firsts_at = place_words

abbrev pub rules_at : ℕ
rules_at = firsts_at + max_places

abbrev pub kinds_at : ℕ
kinds_at = rules_at + rule_words

abbrev pub nonterminals_at : ℕ
nonterminals_at = suc kinds_at

abbrev pub size_at : ℕ
size_at = suc nonterminals_at

abbrev pub corners_at : ℕ
corners_at = suc size_at

abbrev pub table_words : ℕ
table_words = corners_at + 2 * max_nonterminals

-- what a word of 16 bits is below: a row of corners is a low half and so many times a high one
abbrev pub half : ℕ
half = 65536

-- a place's word has so many symbol codes and so many owners
abbrev pub codes : ℕ
codes = 256

abbrev pub owners : ℕ
owners = 64

-- a symbol's code: 0 for a production's end, else one more than the symbol as written
abbrev pub code_of : Symbol → ℕ
code_of End = 0
code_of (Token t) = suc (2 * t)
code_of (Nonterminal a) = suc (suc (2 * a))

-- the word of a place; owners are counted round from nobody, so that a word 0 is nobody's
unfoldable pub word_of : Place → ℕ
word_of x = code_of x.symbol + (x.owner % owners + (owners - nobody)) % owners * codes

unfoldable pub symbol_of : ℕ → Symbol
symbol_of c = cond (eqb c 0) End (cond (eqb (c % 2) 1) (Token (c / 2)) (Nonterminal (c / 2 - 1)))

-- the place that a word says
unfoldable pub place_of : ℕ → Place
unfolding symbol_of
place_of w = record { owner = (w / codes + nobody) % owners; symbol = symbol_of (w % codes) }

-- where the first places of the productions of nonterminal a begin in the tables, and with suc a, where they end
unfoldable pub rule_at : List ℕ → ℕ → ℕ
rule_at t a = firsts_at + get_or t (rules_at + a) 0

-- the first places of the productions of each of some nonterminals
unfoldable pub starts_in : List ℕ → List ℕ → List (List ℕ)
unfolding rule_at
starts_in t [] = []
starts_in t (a ∷ l) = slice (rule_at t a) (rule_at t (suc a)) t ∷ starts_in t l

-- the grammar that tables say
unfoldable pub grammar_in : List ℕ → Grammar
unfolding place_of starts_in
grammar_in t = record {
  kinds = get_or t kinds_at 0;
  size = get_or t size_at 0;
  starts = starts_in t (up_from 0 (get_or t nonterminals_at 0));
  places = map place_of (take place_words t);
}

-- how many nonterminals tables say
abbrev pub nonterminals_in : List ℕ → ℕ
nonterminals_in t = get_or t nonterminals_at 0

-- where the row of left corners of nonterminal a stands in the tables
abbrev pub corner_at : ℕ → ℕ
corner_at a = corners_at + 2 * a

-- the row of left corners that tables hold for nonterminal a
unfoldable pub corner_row : List ℕ → ℕ → ℕ
corner_row t a = get_or t (corner_at a) 0 + get_or t (suc (corner_at a)) 0 * half

-- the tables with that row put into them
unfoldable pub with_corners : List ℕ → ℕ → ℕ → List ℕ
with_corners t a row = set (set t (corner_at a) (row % half)) (suc (corner_at a)) (row / half)

-- what readers of tables may rely on: every index that the words say is in range, and the first places of productions stand rule behind rule, each place a
-- place of its own nonterminal
pub record TablesFit (t : List ℕ) : Type 0 where
  pub long : length t ≡ table_words
  pub few : nonterminals_in t ≤ max_nonterminals
  pub within : (a : ℕ) → a < nonterminals_in t → rule_at t (suc a) ≤ corners_at
  pub named : (p a : ℕ) → facing (grammar_in t) p ≡ Nonterminal a → a < nonterminals_in t
  pub begins : rule_at t 0 ≡ firsts_at
  pub ordered : (a : ℕ) → a < nonterminals_in t → rule_at t a ≤ rule_at t (suc a)
  pub owns : (a k : ℕ) → a < nonterminals_in t → rule_at t a ≤ k → k < rule_at t (suc a) → owner (grammar_in t) (get_or t k 0) ≡ a

-- no left corner is known yet
unfoldable pub Bare : List ℕ → Type 0
unfolding corner_row
Bare t = (a : ℕ) → a < max_nonterminals → corner_row t a ≡ 0

-- tables t say what tables t₀ say: at most the rows of left corners differ
pub record SameTables (t₀ t : List ℕ) : Type 0 where
  pub says : grammar_in t ≡ grammar_in t₀
  pub number : nonterminals_in t ≡ nonterminals_in t₀
  pub fits : TablesFit t
