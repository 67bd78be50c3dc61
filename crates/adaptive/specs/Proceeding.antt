-- What a quick reading teaches a cache, as a relation over any words: where the reading stands, what it takes, and the words when it stops. Predictions are
-- the lessons of `Lessons`; nothing is computed, and no number of steps is named.
use Rattle.std.specs.Prelude.{◌≡◌, List, [], ◌∷◌, ℕ, suc, ◌≤◌, T, drop, Some, None}
use Rattle.std.proofs.Math.Option.{Option, none, some}
use Rattle.std.proofs.Math.ListN.{get_elem?}
use Rattle.grammar.specs.declared.Symbol.TheVariants.{Token, Nonterminal, End}
use Rattle.grammar.specs.Limits.{end_place}
use Rattle.grammar.specs.Grammar.{Grammar, facing, admits, alternatives, first}
use Rattle.derivation.specs.Runs.{marked}
use Rattle.derivation.specs.Runs.{Serves}
use Rattle.lookahead.specs.Configs.{Decides}
use Rattle.cache.specs.Lessons.{Foretells}

-- nonterminal a waits over the stack S that stays open, at position i of the marked note w, over words c: the first place of the production that is taken,
-- or none, and the words then
pub data Takes (g : Grammar) (w S : List ℕ) (a i : ℕ) (c : List ℕ) : Option ℕ → List ℕ → Type 0 where
  -- the only production is taken, with no prediction
  only : {f : ℕ} → alternatives g a ≡ f ∷ [] → Takes g w S a i c (some f) c
  -- the alternative that is foretold
  foretold : {b f : ℕ} {d : List ℕ} → Decides g a → Foretells g c a (drop i w) (Some b) d → first g a b ≡ some f → Takes g w S a i c (some f) d
  -- after FULL the lowest alternative from which the rest of the note can be derived by it and what is still open
  lowest-serving : {b f : ℕ} {d : List ℕ} → Decides g a → Foretells g c a (drop i w) None d → Serves g w S a i b
      → ((b' : ℕ) → Serves g w S a i b' → b ≤ b') → first g a b ≡ some f → Takes g w S a i c (some f) d
  -- if there is none, the reading stops
  none-serving : {d : List ℕ} → Decides g a → Foretells g c a (drop i w) None d → ((b : ℕ) → ¬ Serves g w S a i b) → Takes g w S a i c none d

-- where a reading stands: these places are open, or nonterminal a waits over them
pub data Stand : Type 0 where
  opened : List ℕ → Stand
  waiting : ℕ → List ℕ → Stand

-- from where a reading stands, at position i of the marked note w, with room for so many alternatives and over words c, until it stops: the words then
pub data Proceeds (g : Grammar) (w : List ℕ) : Stand → ℕ → ℕ → List ℕ → List ℕ → Type 0 where
  -- nothing is open any more
  done : {i room : ℕ} {c : List ℕ} → Proceeds g w (opened []) i room c c
  -- a production's end
  pops : {p i room : ℕ} {S c d : List ℕ} → facing g p ≡ End → Proceeds g w (opened S) i room c d → Proceeds g w (opened (p ∷ S)) i room c d
  -- a token that matches
  matches : {p k t i room : ℕ} {S c d : List ℕ} → facing g p ≡ Token k → get_elem? w i ≡ some t → T (admits g k t)
      → Proceeds g w (opened (suc p ∷ S)) (suc i) room c d → Proceeds g w (opened (p ∷ S)) i room c d
  -- one that does not, or no token left: the reading stops
  differs : {p k t i room : ℕ} {S c : List ℕ} → facing g p ≡ Token k → get_elem? w i ≡ some t → ¬ T (admits g k t)
      → Proceeds g w (opened (p ∷ S)) i room c c
  lacks : {p k i room : ℕ} {S c : List ℕ} → facing g p ≡ Token k → get_elem? w i ≡ none → Proceeds g w (opened (p ∷ S)) i room c c
  -- a nonterminal waits over the place behind it
  calls : {p a i room : ℕ} {S c d : List ℕ} → facing g p ≡ Nonterminal a → Proceeds g w (waiting a (suc p ∷ S)) i room c d
      → Proceeds g w (opened (p ∷ S)) i room c d
  -- the row is full: no more predictions are made
  crammed : {a i : ℕ} {S c : List ℕ} → Proceeds g w (waiting a S) i 0 c c
  -- a production is taken, or none
  enters : {a f i room : ℕ} {S c d e : List ℕ} → Takes g w S a i c (some f) d → Proceeds g w (opened (f ∷ S)) i room d e
      → Proceeds g w (waiting a S) i (suc room) c e
  stops : {a i room : ℕ} {S c d : List ℕ} → Takes g w S a i c none d → Proceeds g w (waiting a S) i (suc room) c d

-- the whole reading of a note, with room for so many alternatives: it begins with nonterminal 0, which waits over the end place
abbrev pub ReadsNote : Grammar → List ℕ → ℕ → List ℕ → List ℕ → Type 0
ReadsNote g w room c d = Proceeds g (marked w) (waiting 0 (end_place ∷ [])) 0 room c d
