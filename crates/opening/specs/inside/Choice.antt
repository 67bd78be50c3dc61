-- The lowest alternative that serves, by going down the stack for each, or told at once.
use Rattle.std.specs.Prelude.{◌≡◌, Bool, false, List, ◌∷◌, ℕ, suc, ◌≤◌, ◌<◌, T, length}
use Rattle.std.proofs.Math.Option.{Option, none, some}
use Rattle.base.specs.Bits.{test_bit}
use Rattle.base.specs.Search.{lowest_from}
use Rattle.grammar.specs.Grammar.{Grammar, alternatives, suffix, first}
use Rattle.grammar.specs.inside.Tables.{grammar_in, nonterminals_in}
use Rattle.closures.specs.Closures.{passes}
use Rattle.derivation.specs.Runs.{marked, Serves}
use Rattle.derivation.specs.Machine.{lowest}
use Rattle.derivation.specs.inside.Frames.{returns_of}
use Rattle.filtering.specs.inside.OpenStacks.{Open, Reached}
use Rattle.machine.specs.inside.Choice.{or_zero, Numbered}
use Rattle.search.specs.inside.Words.{search_words, Kept}
use Rattle.search.specs.inside.Searching.{Pair, Holds, state_of}
use Rattle.search.specs.inside.Trials.{CameSoFar}
use Rattle.search.specs.declared.meter.Meter.{Meter}
use Rattle.search.specs.declared.words.Size.{Size}
use Rattle.search.specs.declared.words.Pair as code
use Rattle.search.specs.declared.given.Search.{Search}
use Rattle.opening.specs.declared.marks.Frames.{Frames}
use Rattle.opening.specs.inside.Marks.{Marks}
use Rattle.opening.specs.inside.Stacks.{Stacked, StackKept}
use Rattle.opening.specs.declared.choice.Found.{Found}
use Rattle.opening.specs.declared.choice.Pick.{Pick}

-- nonterminal a at position i over d frames, of which the topmost is where it returns to
pub record MayChoose (t w ms ws : List ℕ) (s : Size) (base d known a i : ℕ) : Type 0 where
  pub stacked : Stacked t w ms ws s base d known
  pub few : known ≤ d
  pub stack : Open (grammar_in t) a (returns_of ws base d)
  pub pair : Pair t w a i

-- as long as budget is left, the answer is the plain chooser's alternative, if there is one, and so many frames have marks
pub record Chosen (t w ms ws after : List ℕ) (base d known a i : ℕ) (m : Meter) (r : Found) : Type 0 where
  pub kept : StackKept t w ms ws after base known
  pub spent : r.meter.left ≤ m.left
  pub chosen : 0 < r.meter.left
      → Numbered r.alternative (λ b. b ≡ or_zero (lowest (grammar_in t) (marked w) (returns_of ws base d) a i))
  pub few : r.known ≤ d
  pub marks : 0 < r.meter.left → Marks (grammar_in t) (marked w) after base r.known
  pub far : 0 < r.meter.left → ((b f : ℕ) → first (grammar_in t) a b ≡ some f → Reached (grammar_in t) (marked w) (f ∷ returns_of ws base d) i)
      → CameSoFar t w ms ws m.high → CameSoFar t w ms after r.meter.high

-- ---- told at once
-- the production from this place on is a list of nonterminals of the set
unfoldable pub vanishes_in : Grammar → ℕ → Option ℕ → Bool
unfolding passes suffix
vanishes_in g set none = false
vanishes_in g set (some f) = passes false (test_bit set) (suffix g f)

-- the lowest alternative of a that is, counted from 1; 0 for none
unfoldable pub empty_of : Grammar → ℕ → ℕ → ℕ
unfolding lowest_from vanishes_in alternatives
empty_of g set a = or_zero (lowest_from (λ b. vanishes_in g set (first g a b)) 0 (suc (length (alternatives g a))))

-- pair (a, i) was worked out, if budget is left
pub record AskedFor (t w ms ws after : List ℕ) (a i budget r : ℕ) : Type 0 where
  pub kept : Kept (search_words (nonterminals_in t) (length w)) ws after
  pub holds : Holds t w ms after
  pub spent : r ≤ budget
  pub done : 0 < r → T ((state_of t w after).done a i)

-- c is the lowest alternative of a over every open stack over which some alternative serves; said of none but alternatives, which are not 0
abbrev pub LowestWhere : List ℕ → List ℕ → ℕ → ℕ → ℕ → Type 0
LowestWhere t w a i c = (S : List ℕ) → Open (grammar_in t) a S → (b : ℕ) → Serves (grammar_in t) (marked w) S a i b → ¬ (c ≡ 0)
    → lowest (grammar_in t) (marked w) S a i ≡ some c

-- if some alternative of a serves over an open stack, and one is told, it is the lowest that does
pub record Taken (t w ms ws after : List ℕ) (a i budget : ℕ) (r : Pick) : Type 0 where
  pub kept : Kept (search_words (nonterminals_in t) (length w)) ws after
  pub holds : Holds t w ms after
  pub spent : r.left ≤ budget
  pub taken : Numbered r.alternative (LowestWhere t w a i)

-- the same of what the code holds
abbrev pub Chooses : Search → List ℕ → Frames → code.Pair → Type 0
Chooses s ws o p = MayChoose s.tables.now s.note.now s.masks.now ws s.size o.base o.depth o.known p.nonterminal p.position

abbrev pub ChosenBy : Search → List ℕ → List ℕ → Frames → code.Pair → Meter → Found → Type 0
ChosenBy s ws after o p m r = Chosen s.tables.now s.note.now s.masks.now ws after o.base o.depth o.known p.nonterminal p.position m r

abbrev pub AskedForBy : Search → List ℕ → List ℕ → code.Pair → ℕ → ℕ → Type 0
AskedForBy s ws after p budget r = AskedFor s.tables.now s.note.now s.masks.now ws after p.nonterminal p.position budget r

abbrev pub TakenBy : Search → List ℕ → List ℕ → code.Pair → ℕ → Pick → Type 0
TakenBy s ws after p budget r = Taken s.tables.now s.note.now s.masks.now ws after p.nonterminal p.position budget r
