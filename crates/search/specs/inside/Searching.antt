-- What every step of the search rests on, and what is known of a pair.
use Rattle.std.specs.Prelude.{◌≡◌, false, List, ℕ, ◌≤◌, ◌<◌, length, get_or}
use Rattle.grammar.specs.inside.Tables.{grammar_in, nonterminals_in}
use Rattle.closures.specs.inside.Steps.{DerivingIs}
use Rattle.positions.specs.inside.Positions.{member}
use Rattle.positions.specs.inside.Words.{set_at}
use Rattle.derivation.specs.Runs.{marked}
use Rattle.derivation.specs.Space.{max_tokens}
use Rattle.derivation.specs.Demand2.{Known}
use Rattle.derivation.specs.inside.Ready.{Ready}
use Rattle.first_follow.specs.inside.Masks.{Closed}
use Rattle.first_follow.specs.inside.Words.{nullable_at, mask_words, masks_in}
use Rattle.filtering.specs.inside.Known as known
use Rattle.search.specs.inside.Words.{pair_set, search_words, state_in}
use Rattle.search.specs.declared.words.Size.{Size}
use Rattle.search.specs.declared.words.Pair as code
use Rattle.search.specs.declared.given.Search.{Search}
use Rattle.search.specs.declared.replies.Reply.{Reply}
use Rattle.search.specs.declared.replies.Reply.TheVariants.{Unknown, Nowhere, Only, Several}

-- the state that words say, by grammar and note
abbrev pub state_of : List ℕ → List ℕ → List ℕ → known.State
state_of t w ws = state_in (nonterminals_in t) (length w) ws

-- the set that stands for pair (a, i)
abbrev pub set_of : List ℕ → List ℕ → List ℕ → ℕ → ℕ → List ℕ
set_of t w ws a i = set_at ws (pair_set (nonterminals_in t) (length w) a i)

-- a nonterminal of the grammar and a position of the note
abbrev pub Pair : List ℕ → List ℕ → ℕ → ℕ → Type 0
Pair t w a i = (a < nonterminals_in t) × (i ≤ length w)

-- tables, a note of known tokens, masks that are closed under the rules, with the set of the nonterminals that derive the empty row
pub record Given (t w ms : List ℕ) : Type 0 where
  pub ready : Ready t
  pub short : length w ≤ max_tokens
  pub tokens : Known (grammar_in t).kinds w
  pub closed : Closed (grammar_in t) (masks_in ms)
  pub masked : length ms ≡ mask_words
  pub nullable : DerivingIs false (grammar_in t) (get_or ms nullable_at 0)

-- and words for the search
abbrev pub Roomy : List ℕ → List ℕ → List ℕ → Type 0
Roomy t w ws = search_words (nonterminals_in t) (length w) ≤ length ws

-- whose tags of pairs that are worked out are right
abbrev pub Holds : List ℕ → List ℕ → List ℕ → List ℕ → Type 0
Holds t w ms ws = known.Holds (grammar_in t) (masks_in ms) (marked w) (state_of t w ws)

pub record Searching (t w ms ws : List ℕ) : Type 0 where
  pub given : Given t w ms
  pub room : Roomy t w ws
  pub holds : Holds t w ms ws

-- the code's numbers are those of this grammar and note
pub record Sized (t w : List ℕ) (s : Size) : Type 0 where
  pub tokens : s.n ≡ length w
  pub names : s.nonterminals ≡ nonterminals_in t

-- pair (a, i) may be asked
pub record MayAsk (t w ms ws : List ℕ) (s : Size) (a i : ℕ) : Type 0 where
  pub searching : Searching t w ms ws
  pub sized : Sized t w s
  pub pair : Pair t w a i

-- a reply of the code as one of the laws
abbrev pub reply_in : List ℕ → Reply → known.Reply
reply_in set Unknown = known.unknown
reply_in set Nowhere = known.nowhere
reply_in set (Only m) = known.only m
reply_in set Several = known.among (member set)

-- r is what is known of pair (a, i)
abbrev pub KnownIs : List ℕ → List ℕ → List ℕ → List ℕ → ℕ → ℕ → Reply → Type 0
KnownIs t w ms ws a i r = reply_in (set_of t w ws a i) r ≡ known.known (masks_in ms) (marked w) (state_of t w ws) a i

-- the same of what the code holds
abbrev pub Asks : Search → List ℕ → code.Pair → Type 0
Asks s ws p = MayAsk s.tables.now s.note.now s.masks.now ws s.size p.nonterminal p.position

abbrev pub KnownBy : Search → List ℕ → code.Pair → Reply → Type 0
KnownBy s ws p r = KnownIs s.tables.now s.note.now s.masks.now ws p.nonterminal p.position r
