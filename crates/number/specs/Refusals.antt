-- The scope's number and place of each refusal.
use Rattle.std.specs.Prelude.{ℕ}
use Rattle.number.specs.Types.{Refusal, Unfinished, Malformed, OverLimit, UnknownSymbol, Trailing, Unproductive, LeftRecursive}

-- the number in the table of refusals
abbrev pub refusal_number : Refusal → ℕ
refusal_number (Unfinished at) = 1
refusal_number (Malformed at) = 2
refusal_number (OverLimit at) = 3
refusal_number (UnknownSymbol at) = 4
refusal_number (Trailing at) = 5
refusal_number (Unproductive a) = 6
refusal_number (LeftRecursive a) = 7

-- the place named: a byte of the grammar for 1 to 5, a nonterminal for 6 and 7
abbrev pub refusal_place : Refusal → ℕ
refusal_place (Unfinished at) = at
refusal_place (Malformed at) = at
refusal_place (OverLimit at) = at
refusal_place (UnknownSymbol at) = at
refusal_place (Trailing at) = at
refusal_place (Unproductive a) = a
refusal_place (LeftRecursive a) = a
