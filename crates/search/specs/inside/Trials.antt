-- A pair that is tried, and pairs that are worked out one after the other.
use Rattle.std.specs.Prelude.{◌≡◌, ◌↔◌, cond, List, ℕ, suc, ◌≤◌, ◌<◌, T, length, Result, Ok, Err, OnOk}
use Rattle.std.proofs.Math.Option.{some}
use Rattle.grammar.specs.Grammar.{Grammar, first}
use Rattle.grammar.specs.inside.Tables.{grammar_in, nonterminals_in}
use Rattle.derivation.specs.Runs.{marked}
use Rattle.positions.specs.inside.Positions.{set_words, member}
use Rattle.grammar.specs.Limits.{max_kinds, max_nonterminals}
use Rattle.derivation.specs.Space.{max_tokens}
use Rattle.first_follow.specs.inside.Words.{mask_words, masks_in}
use Rattle.filtering.specs.inside.Beginnings.{token_at}
use Rattle.filtering.specs.inside.Filtered.{EndsBy, EndsFrom}
use Rattle.filtering.specs.inside.Tags as tags
use Rattle.filtering.specs.inside.Cover.{CoveredFrom, Covered, Called}
use Rattle.filtering.specs.inside.Settling.{Came}
use Rattle.search.specs.inside.Words.{TagFits, tag_of, search_words, Kept}
use Rattle.search.specs.inside.Searching.{Pair, Holds, state_of, set_of}
use Rattle.search.specs.inside.Walks.{Within, MayWalk, Spent, Raised, WantsPair}
use Rattle.search.specs.declared.words.Size.{Size}
use Rattle.search.specs.declared.meter.Meter.{Meter}
use Rattle.search.specs.declared.words.Pair as code
use Rattle.search.specs.declared.given.Search.{Search}
use Rattle.search.specs.declared.adding.Ends.{Ends}
use Rattle.search.specs.declared.meter.Exhausted.{Exhausted}
use Rattle.search.specs.declared.walking.Halt.{Halt}
use Rattle.search.specs.declared.walking.Halt.TheVariants.{Needs, Out}

-- ends so far, as a tag of the laws
abbrev pub told_by : Ends → tags.Tag
told_by e = tag_of e.tag e.set.words

-- they fit: a tag that fits a word, and a set of as many words as sets have
abbrev pub EndsFit : Ends → Type 0
EndsFit e = TagFits e.tag × (length e.set.words ≡ set_words)

-- ---- ends that are added
-- ends by alternative k of nonterminal a may be added
pub record MayAdd (ms w : List ℕ) (e : Ends) (a k : ℕ) : Type 0 where
  pub masked : length ms ≡ mask_words
  pub short : length w ≤ max_tokens
  pub kinds : (j : ℕ) → token_at (marked w) j ≤ max_kinds
  pub named : a < max_nonterminals
  pub alternative : k < 32
  pub fits : EndsFit e

-- those members of x whose token may follow a were added: whatever grammar and position they are the ends of alternative k for
abbrev pub AddedAll : List ℕ → List ℕ → ℕ → ℕ → List ℕ → Ends → Ends → Type 0
AddedAll ms w a k x before after =
    (g : Grammar) (i l : ℕ) → k ≡ suc l → Within w x
    → ((m : ℕ) → EndsBy g (masks_in ms) (marked w) a i k m ↔ (T (member x m) × T ((masks_in ms).follows (token_at (marked w) m) a)))
    → tags.TaggedTo g (masks_in ms) (marked w) a i l (told_by before) → tags.TaggedTo g (masks_in ms) (marked w) a i k (told_by after)

-- ---- an alternative that goes on from the several ends of a pair
pub record MayBranch (t w ms ws : List ℕ) (s : Size) (a k : ℕ) (e : Ends) (p b j : ℕ) : Type 0 where
  pub walk : MayWalk t w ms ws s p (set_of t w ws b j)
  pub pair : Pair t w b j
  pub add : MayAdd ms w e a k

module _ (t w ms ws : List ℕ) (a k : ℕ) (e : Ends) (p b j : ℕ) where
  -- the ends of place p from the members of the pair's set were added
  pub record JoinedEnds (high after : ℕ) (r : Ends) : Type 0 where
    pub added : (i l : ℕ) → k ≡ suc l
        → ((m : ℕ) → EndsBy (grammar_in t) (masks_in ms) (marked w) a i k m
        ↔ (EndsFrom (grammar_in t) (masks_in ms) (marked w) (λ x. T (member (set_of t w ws b j) x)) p m × T ((masks_in ms).follows (token_at (marked w) m) a)))
        → tags.TaggedTo (grammar_in t) (masks_in ms) (marked w) a i l (told_by e) → tags.TaggedTo (grammar_in t) (masks_in ms) (marked w) a i k (told_by r)
    pub fits : EndsFit r
    pub cover : Covered (grammar_in t) (masks_in ms) (marked w) (state_of t w ws).done high → ((m : ℕ) → T (member (set_of t w ws b j) m) → m ≤ high)
        → (m : ℕ) → T (member (set_of t w ws b j) m) → CoveredFrom (grammar_in t) (masks_in ms) (marked w) (state_of t w ws).done after p m

  abbrev pub BranchedTo : ℕ → Result Ends Halt → ℕ → Type 0
  BranchedTo high (Ok r) after = JoinedEnds high after r
  BranchedTo high (Err (Needs n)) after = WantsPair t w ms ws p (set_of t w ws b j) n.nonterminal n.position
  BranchedTo high (Err Out) after = Unit {0}

  pub record Branched (m after : Meter) (r : Result Ends Halt) : Type 0 where
    pub spent : Spent m after
    pub raised : Raised t w ms ws p (set_of t w ws b j) m.high after.high
    pub branched : BranchedTo m.high r after.high

-- ---- a pair
module _ (t w ms ws : List ℕ) where
  -- every alternative of pair (a, i) is covered up to `high`, if what is worked out was up to `from`
  abbrev pub CoversPair : ℕ → ℕ → ℕ → ℕ → Type 0
  CoversPair a i from high =
      Covered (grammar_in t) (masks_in ms) (marked w) (state_of t w ws).done from → (b f : ℕ) → first (grammar_in t) a b ≡ some f
      → CoveredFrom (grammar_in t) (masks_in ms) (marked w) (state_of t w ws).done high f i

  -- the pair's ends are worked out
  pub record FoundEnds (a i from high : ℕ) (e : Ends) : Type 0 where
    pub tagged : tags.Tagged (grammar_in t) (masks_in ms) (marked w) a i (told_by e)
    pub fits : EndsFit e
    pub covers : CoversPair a i from high

  -- another pair is needed first; it is called if this one is
  pub record NeedsPair (a i b j : ℕ) : Type 0 where
    pub pair : Pair t w b j
    pub undone : ¬ T ((state_of t w ws).done b j)
    pub called : Called (grammar_in t) (marked w) a i → Called (grammar_in t) (marked w) b j

  abbrev pub TriedAs : ℕ → ℕ → ℕ → Result Ends Halt → ℕ → Type 0
  TriedAs a i from (Ok e) high = FoundEnds a i from high e
  TriedAs a i from (Err (Needs n)) high = NeedsPair a i n.nonterminal n.position
  TriedAs a i from (Err Out) high = Unit {0}

  -- how far a pair came is a position that the note comes to, if the pair is called
  pub record Higher (a i from high : ℕ) : Type 0 where
    pub up : from ≤ high
    pub came : Called (grammar_in t) (marked w) a i → Came (grammar_in t) (marked w) from → Came (grammar_in t) (marked w) high

  pub record DidTry (a i : ℕ) (m after : Meter) (r : Result Ends Halt) : Type 0 where
    pub spent : Spent m after
    pub higher : Higher a i m.high after.high
    pub tried : TriedAs a i m.high r after.high

-- what is worked out is covered up to `high`, to which the note comes
pub record CameSoFar (t w ms ws : List ℕ) (high : ℕ) : Type 0 where
  pub cover : Covered (grammar_in t) (masks_in ms) (marked w) (state_of t w ws).done high
  pub came : Came (grammar_in t) (marked w) high

-- pairs were worked out for pair (a, i), and no word behind those of the search has changed. Unless the budget is out, this pair is among them.
pub record Settled (t w ms ws after : List ℕ) (a i : ℕ) (m m' : Meter) (r : Result (Unit {0}) Exhausted) : Type 0 where
  pub kept : Kept (search_words (nonterminals_in t) (length w)) ws after
  pub holds : Holds t w ms after
  pub spent : Spent m m'
  pub done : OnOk r (T ((state_of t w after).done a i))
  pub far : Called (grammar_in t) (marked w) a i → CameSoFar t w ms ws m.high → CameSoFar t w ms after m'.high

-- ---- the same of what the code holds
abbrev pub Adds : Search → Ends → ℕ → ℕ → Type 0
Adds s e a k = MayAdd s.masks.now s.note.now e a k

-- the end j was added, if its token may follow a
abbrev pub AddedBy : Search → Ends → ℕ → ℕ → ℕ → Ends → Type 0
AddedBy s e a k j r =
    told_by r ≡ cond ((masks_in s.masks.now).follows (token_at (marked s.note.now) j) a) (tags.add (told_by e) k j) (told_by e)

abbrev pub AddedAllBy : Search → Ends → ℕ → ℕ → List ℕ → Ends → Type 0
AddedAllBy s e a k x r = AddedAll s.masks.now s.note.now a k x e r

abbrev pub Branches : Search → List ℕ → ℕ → ℕ → Ends → ℕ → code.Pair → Type 0
Branches s ws a k e p n = MayBranch s.tables.now s.note.now s.masks.now ws s.size a k e p n.nonterminal n.position

abbrev pub BranchedBy : Search → List ℕ → ℕ → ℕ → Ends → ℕ → code.Pair → Meter → Meter → Result Ends Halt → Type 0
BranchedBy s ws a k e p n m after r = Branched s.tables.now s.note.now s.masks.now ws a k e p n.nonterminal n.position m after r

abbrev pub TriedBy : Search → List ℕ → code.Pair → Meter → Meter → Result Ends Halt → Type 0
TriedBy s ws p m after r = DidTry s.tables.now s.note.now s.masks.now ws p.nonterminal p.position m after r

abbrev pub SettledBy : Search → List ℕ → List ℕ → code.Pair → Meter → Meter → Result (Unit {0}) Exhausted → Type 0
SettledBy s ws after p m m' r = Settled s.tables.now s.note.now s.masks.now ws after p.nonterminal p.position m m' r
