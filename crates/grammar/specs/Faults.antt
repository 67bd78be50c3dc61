-- What refusals 1 to 5 mean, told of the bytes of rules and not of a way to read them; proofs/EncodeLaws says that `decode` gives exactly these.
use Rattle.std.specs.Prelude.{◌≡◌, List, [], ◌∷◌, ◌++◌, ℕ, suc, ◌+◌, ◌≤◌, length}
use Rattle.number.specs.Number.{shortest, max_number}
use Rattle.number.specs.Forms.{CutShort, Misspelled}
use Rattle.grammar.specs.Types.{Refusal, Unfinished, Malformed, OverLimit, UnknownSymbol, Trailing, Unproductive, LeftRecursive}
use Rattle.grammar.specs.Limits.{max_kinds, max_nonterminals, max_productions, max_length, max_places}
use Rattle.base.specs.Lists.{AllOf}
use Rattle.grammar.specs.Decode.{Rules, Legal}
use Rattle.grammar.specs.Grammar.{Limited}
use Rattle.grammar.specs.Encode.{Part, highest_kind, nonterminal_count, production_count, symbol_count, one_symbol, number_of, parts_of, bytes_of, encode}

-- a number keeps its own limit, in a grammar with highest kind t and n nonterminals
abbrev pub Permitted : ℕ → ℕ → Part → Type 0
Permitted t n (highest_kind v) = (1 ≤ v) × (v ≤ max_kinds)
Permitted t n (nonterminal_count v) = (1 ≤ v) × (v ≤ max_nonterminals)
Permitted t n (production_count v) = (1 ≤ v) × (v ≤ max_productions)
Permitted t n (symbol_count v) = v ≤ max_length
Permitted t n (one_symbol x) = Legal t n x

-- the places that a number takes: a length takes one more than it says
abbrev pub places_by : Part → ℕ
places_by (highest_kind v) = 0
places_by (nonterminal_count v) = 0
places_by (production_count v) = 0
places_by (symbol_count v) = suc v
places_by (one_symbol x) = 0

-- the places that several take
unfoldable pub places_of : List Part → ℕ
places_of [] = 0
places_of (x ∷ l) = places_by x + places_of l

-- numbers keep the limits, with p places before them: each its own, and they take P to at most 255
abbrev pub InLimits : ℕ → ℕ → ℕ → List Part → Type 0
InLimits t n p l = AllOf (Permitted t n) l × (p + places_of l ≤ max_places)

-- a number that is a symbol
abbrev pub IsSymbol : Part → Type 0
IsSymbol (highest_kind v) = ⊥
IsSymbol (nonterminal_count v) = ⊥
IsSymbol (production_count v) = ⊥
IsSymbol (symbol_count v) = ⊥
IsSymbol (one_symbol x) = Unit {0}

-- reading comes to a number at `at`: the numbers ahead of it are the first numbers of some rules, keep the limits, and begin the bytes; it is the next number
-- of those rules that is due, and `left` is what is left of the bytes
pub record Comes (s : List ℕ) (at : ℕ) : Type 0 where
  pub rules : Rules
  pub ahead : List Part
  pub due : Part
  pub behind : List Part
  pub left : List ℕ
  pub numbers : parts_of rules ≡ ahead ++ (due ∷ behind)
  pub keeps : InLimits rules.kinds (length rules.productions) 0 ahead
  pub bytes : s ≡ bytes_of ahead ++ left
  pub place : at ≡ length (bytes_of ahead)

-- the number that is due stands there and breaks a limit: its own, or it takes P above 255
abbrev pub Breaks : {s : List ℕ} {at : ℕ} → Comes s at → Type 0
Breaks c =
    (rest : List ℕ) × (number_of c.due ≤ max_number) × (c.left ≡ shortest (number_of c.due) ++ rest)
    × ¬ InLimits c.rules.kinds (length c.rules.productions) (places_of c.ahead) (c.due ∷ [])

-- the bytes begin with those of rules within the limits, and others follow at `at`
pub record Overlong (s : List ℕ) (at : ℕ) : Type 0 where
  pub rules : Rules
  pub more : List ℕ
  pub limits : Limited rules
  pub bytes : s ≡ encode rules ++ more
  pub some : 1 ≤ length more
  pub place : at ≡ length (encode rules)

-- the scope's table, 1 to 5: bytes deserve a refusal
abbrev pub Faulty : List ℕ → Refusal → Type 0
Faulty s (Unfinished at) = (c : Comes s at) × CutShort c.left
Faulty s (Malformed at) = (c : Comes s at) × Misspelled c.left
Faulty s (OverLimit at) = (c : Comes s at) × Breaks c × ¬ IsSymbol c.due
Faulty s (UnknownSymbol at) = (c : Comes s at) × Breaks c × IsSymbol c.due
Faulty s (Trailing at) = Overlong s at
Faulty s (Unproductive a) = ⊥
Faulty s (LeftRecursive a) = ⊥
