-- Where a note's token meets a kind.
use Rattle.std.specs.Prelude.{Bool, false, List, ℕ}
use Rattle.std.proofs.Math.Option.{Option, none, some}
use Rattle.std.proofs.Math.ListN.{get_elem?}
use Rattle.grammar.specs.Grammar.{Grammar, admits}

-- this token, if there is one, may stand where kind k is called for
unfoldable pub admitted : Grammar → ℕ → Option ℕ → Bool
admitted g k none = false
admitted g k (some t) = admits g k t

-- a token stands at position i of the note w, and it may stand where kind k is called for
unfoldable pub matches_at : Grammar → List ℕ → ℕ → ℕ → Bool
unfolding admitted
matches_at g w i k = admitted g k (get_elem? w i)
