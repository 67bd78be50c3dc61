-- The bytes that the pass over a grammar fetches, and counts: those from the first to the last one that decided.
use Rattle.std.specs.Prelude.{◌≡◌, List, ℕ, length}
use Rattle.base.specs.Rounds.{up_from}
use Rattle.number.specs.Fetching.{Fetched, end_of, decided_by}
use Rattle.grammar.specs.Decode.{Rules, Parsed, got, refused, decode}
use Rattle.reader.specs.inside.Types.{Read}
use Rattle.reader.specs.inside.Types.{Refusal, Unfinished, Malformed, OverLimit, UnknownSymbol, Trailing, Unproductive, LeftRecursive}

-- by what the bytes say: all of them, if that is a whole grammar; of a refused one those up to the last that decided
abbrev pub fetched_for : List ℕ → Parsed Rules → ℕ
fetched_for s (got r m) = length s
fetched_for s (refused f) = decided_by s f

unfoldable pub bytes_fetched : List ℕ → ℕ
unfolding decode decided_by
bytes_fetched s = fetched_for s (decode s)

-- what comes back of a pass over s carries that count, and its cursor has come about by fetching those bytes, each once and in their order
pub record CountsBytes (s : List ℕ) (r : Read) : Type 0 where
  pub count : (end_of r).count ≡ bytes_fetched s
  pub fetched : Fetched s (up_from 0 (bytes_fetched s)) (end_of r)

-- a refusal by the bytes of a number that are there: 2, 3 or 4. proofs/DecidingLaws says that no byte behind the last one fetched matters to it, and that
-- before that byte had come nothing was decided
abbrev pub Within : Refusal → Type 0
Within (Unfinished at) = ⊥
Within (Malformed at) = Unit {0}
Within (OverLimit at) = Unit {0}
Within (UnknownSymbol at) = Unit {0}
Within (Trailing at) = ⊥
Within (Unproductive a) = ⊥
Within (LeftRecursive a) = ⊥
