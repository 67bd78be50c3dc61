-- What the bytes of a line say: up to max_tokens tokens, each of 1 to max_digits digits and at most max_token, single blanks between; anything else is bad.
use Rattle.std.specs.Prelude.{ℕ, suc, ◌+◌, ◌*◌, ◌-◌, Bool, true, false, cond, ◌&&◌, List, [], ◌∷◌, length, eqb, leb, ltb}
use Rattle.std.proofs.Math.Option.{Option, none, some}

-- the most tokens of a line, the most digits of a token, and the highest token
abbrev pub max_line_tokens : ℕ
max_line_tokens = 16

abbrev pub max_digits : ℕ
max_digits = 5

abbrev pub max_token : ℕ
max_token = 65535

-- the byte between two tokens
abbrev pub blank : ℕ
blank = 32

-- v with one more digit
abbrev pub grown : ℕ → ℕ → ℕ
grown v b = 10 * v + (b - 48)

-- the byte b is a digit that may follow d digits of the number v
unfoldable pub fits? : ℕ → ℕ → ℕ → Bool
fits? d v b = leb 48 b && (leb b 57 && (ltb d max_digits && leb (grown v b) max_token))

-- a token in front of others
abbrev pub put : ℕ → Option (List ℕ) → Option (List ℕ)
put v none = none
put v (some w) = some (v ∷ w)

-- a token of d digits and the number v ends, and others follow: it has a digit
unfoldable pub token_ended : ℕ → ℕ → Option (List ℕ) → Option (List ℕ)
token_ended d v o = cond (eqb d 0) none (put v o)

-- the tokens of the rest of a line, behind d digits of the number v
unfoldable pub tokens_from : ℕ → ℕ → List ℕ → Option (List ℕ)
unfolding token_ended fits?
tokens_from d v [] = token_ended d v (some [])
tokens_from d v (b ∷ s) =
    elim (eqb b blank) [
      | true ↦ token_ended d v (tokens_from 0 0 s)
      | false ↦ elim (fits? d v b) [ true ↦ tokens_from (suc d) (grown v b) s | false ↦ none ]
    ]

-- no more tokens than a line may have
unfoldable pub few : Option (List ℕ) → Option (List ℕ)
few none = none
few (some w) = cond (leb (length w) max_line_tokens) (some w) none

-- the note of a line, or none where it is bad; an empty line is the empty note
unfoldable pub line_of : List ℕ → Option (List ℕ)
unfolding few tokens_from
line_of [] = some []
line_of (b ∷ s) = few (tokens_from 0 0 (b ∷ s))

-- the bytes of a line that are kept: a good line has its digits for each token and a blank between two, and so fewer
abbrev pub max_kept_bytes : ℕ
max_kept_bytes = max_line_tokens * suc max_digits
