-- What is recorded, asked and predicted, as relations over any words of a cache: the scope's rules and the documented fields, with no computed test in
-- them and no bound on steps.
use Rattle.cache.specs.Predictor.{Forecast}
use Rattle.std.specs.Prelude.{◌≡◌, ◌≢◌, List, [], ◌∷◌, ℕ, ◌≤◌, ◌<◌, length, set, Some, None}
use Rattle.grammar.specs.Grammar.{Grammar, alternatives}
use Rattle.lookahead.specs.Configs.{Config}
use Rattle.lookahead.specs.Outcomes.{Outcome, full, alternative, state}
use Rattle.lookahead.specs.Given.{StartGives, StepGives}
use Rattle.configurations.specs.Packing.{pack_all}
use Rattle.words.specs.Layout.{slots, start_at, step_at, full_word, state_word}
use Rattle.words.specs.Words.{word, held, decision, kept_words, kept_in, add_state}

-- ---- recording
-- slot s holds these configurations as a state of decision a
pub record Stores (c : List ℕ) (a : ℕ) (ks : List Config) (s : ℕ) : Type 0 where
  pub holds : s < held c
  pub slot : s < slots (length c)
  pub decides : decision c s ≡ a
  pub keeps : kept_words c s ≡ pack_all ks

-- the outcome of decision a over words c, whose word is number i: the word that says it, and the words once it is recorded
pub data Records (c : List ℕ) (a i : ℕ) : Outcome → ℕ → List ℕ → Type 0 where
  says-full : Records c a i full full_word (set c i full_word)
  says-alternative : {b : ℕ} → Records c a i (alternative b) b (set c i b)
  -- a state equal to one held by the same decision is that one; the first, if foreign words hold it twice
  says-held : {ks : List Config} (s : ℕ) → Stores c a ks s → ((s' : ℕ) → Stores c a ks s' → s ≤ s')
      → Records c a i (state ks) (state_word s) (set c i (state_word s))
  -- a new one takes the next slot
  says-new : {ks : List Config} → ((s : ℕ) → ¬ Stores c a ks s) → held c < slots (length c)
      → Records c a i (state ks) (state_word (held c)) (set (add_state c a ks) i (state_word (held c)))
  -- with no slot free nothing is recorded, and the outcome counts as FULL
  no_slot : {ks : List Config} → ((s : ℕ) → ¬ Stores c a ks s) → slots (length c) ≤ held c → Records c a i (state ks) full_word c

-- ---- asking
-- an outcome of decision a whose word is number i: as recorded, or else what the rules give, and then it is recorded
pub data Obtains (c : List ℕ) (a i : ℕ) (Given : Outcome → Type 0) : ℕ → List ℕ → Type 0 where
  as-recorded : word c i ≢ 0 → Obtains c a i Given (word c i) c
  worked-out : {o : Outcome} {w : ℕ} {d : List ℕ} → word c i ≡ 0 → Given o → Records c a i o w d → Obtains c a i Given w d

-- of the start of decision a
abbrev pub ObtainsStart : Grammar → List ℕ → ℕ → ℕ → List ℕ → Type 0
ObtainsStart g c a w d = Obtains c a (start_at a) (StartGives g a) w d

-- of the step of slot s over token t
abbrev pub ObtainsStep : Grammar → List ℕ → ℕ → ℕ → ℕ → ℕ → List ℕ → Type 0
ObtainsStep g c a s t w d = Obtains c a (step_at s t) (StepGives g t (kept_in c s)) w d

-- ---- predicting
-- word w names an alternative of decision a
pub record NamesAlternative (g : Grammar) (a w : ℕ) : Type 0 where
  pub least : 1 ≤ w
  pub most : w ≤ length (alternatives g a)

-- word w names slot s of words c
pub record NamesSlot (c : List ℕ) (w s : ℕ) : Type 0 where
  pub is : w ≡ state_word s
  pub slot : s < slots (length c)

-- a prediction of decision a goes on from word w over the tokens that are left, the end mark included, and words c: what is foretold, and the words then
pub data Pursues (g : Grammar) (a : ℕ) : List ℕ → ℕ → List ℕ → Forecast → List ℕ → Type 0 where
  -- an alternative ends it
  names-one : {ts : List ℕ} {w : ℕ} {c : List ℕ} → NamesAlternative g a w → Pursues g a ts w c (Some w) c
  -- FULL ends it, and so does a word that no recording leaves
  says_none : {ts : List ℕ} {w : ℕ} {c : List ℕ} → ¬ NamesAlternative g a w → ((s : ℕ) → ¬ NamesSlot c w s) → Pursues g a ts w c None c
  -- with no token left it is FULL
  no-token : {w s : ℕ} {c : List ℕ} → NamesSlot c w s → Pursues g a [] w c None c
  -- a state steps over the next token
  steps : {t : ℕ} {ts : List ℕ} {w s v : ℕ} {c d e : List ℕ} {x : Forecast} → NamesSlot c w s → ObtainsStep g c a s t v d → Pursues g a ts v d x e
      → Pursues g a (t ∷ ts) w c x e

-- the prediction of decision a over these tokens: from its start on
pub record Foretells (g : Grammar) (c : List ℕ) (a : ℕ) (ts : List ℕ) (x : Forecast) (d : List ℕ) : Type 0 where
  pub said : ℕ
  pub words : List ℕ
  pub starts : ObtainsStart g c a said words
  pub goes_on : Pursues g a ts said words x d
