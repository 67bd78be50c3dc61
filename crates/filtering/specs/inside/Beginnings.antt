-- The token at a position of a note, and with what tokens a place of a production may begin.
use Rattle.std.specs.Prelude.{◌≡◌, List, ℕ, T, get_or}
use Rattle.grammar.specs.declared.Symbol.TheVariants.{Token, Nonterminal, End}
use Rattle.grammar.specs.Limits.{end_mark}
use Rattle.grammar.specs.Grammar.{Grammar, facing, admits}
use Rattle.first_follow.specs.FirstFollow.{Skips}
use Rattle.first_follow.specs.inside.Masks.{Masks}

-- the token at a position; behind the end it is the end mark
abbrev pub token_at : List ℕ → ℕ → ℕ
token_at w i = get_or w i end_mark

-- token t may be the first that is read from place p on, within its production: its kind stands there, or a nonterminal that may start with it
pub data Begins (g : Grammar) (M : Masks) (t p : ℕ) : Type 0 where
  token : {q k : ℕ} → Skips g p q → facing g q ≡ Token k → T (admits g k t) → Begins g M t p
  call : {q c : ℕ} → Skips g p q → facing g q ≡ Nonterminal c → T (M.starts t c) → Begins g M t p

-- what is left from place p on derives the empty row
abbrev pub Vanishes : Grammar → ℕ → Type 0
Vanishes g p = (q : ℕ) × Skips g p q × (facing g q ≡ End)
