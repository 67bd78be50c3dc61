-- What the order of the bytes gives a table of places, whatever its rules: productions stand together, and the end place stands alone.
use Rattle.std.specs.Prelude.{◌≡◌, ℕ, suc}
use Rattle.std.proofs.Math.Option.{some}
use Rattle.grammar.specs.Types.{Token, Nonterminal, End}
use Rattle.grammar.specs.Limits.{end_place, end_mark}
use Rattle.grammar.specs.Grammar.{Grammar, facing, owner, first}

pub record Ordered (g : Grammar) : Type 0 where
  -- the end place faces the end mark: a reading is over only when the note is
  pub marked_end : facing g end_place ≡ Token end_mark
  -- behind the end place nothing is called for
  pub end-past : facing g (suc end_place) ≡ End
  -- the first place of every alternative of a nonterminal is its own
  pub owns : (a b f : ℕ) → first g a b ≡ some f → owner g f ≡ a
  -- the place behind a token has the same owner: the production goes on
  pub token-on : (p k : ℕ) → facing g p ≡ Token k → owner g (suc p) ≡ owner g p
  -- and so has the place behind a call, the place to which the call returns
  pub call-on : (p a : ℕ) → facing g p ≡ Nonterminal a → owner g (suc p) ≡ owner g p
