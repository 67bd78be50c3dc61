-- What the definitions record, obtain and foretell, over any words, coherent or not, is what the lessons say.
use mathlib.Core.Path.{◌≡◌, refl, sym, subst}
use mathlib.Core.Bool.{Bool, true, false}
use mathlib.Core.Option.{Option}
use mathlib.Core.List.{List, [], ◌∷◌}
use Prim.Native.Nat.{ℕ, ◌-◌, ◌≤◌, ◌<◌}
use native.Mathlib.Omega.{arith}
use native.Mathlib.Decide.{dec_lt}
use lib.Dec.{eqb, ltb}
use lib.ListN.{length}
use borrow.Author.Tests.{eqb-true, eqb-false, ltb-true, ltb-false}
use Rattle.base.specs.Search.{LowestIs, this, nothing}
use Rattle.grammar.specs.Limits.{max_productions}
use Rattle.grammar.specs.Decode.{Rules}
use Rattle.grammar.specs.Grammar.{Grammar, alternatives, compile, Limited}
use Rattle.lookahead.specs.Configs.{Config}
use Rattle.lookahead.specs.Outcomes.{Outcome, full, alternative, state, start_outcome, step_outcome}
use Rattle.lookahead.specs.Given.{StartGives, StepGives}
use Rattle.lookahead.proofs.Bounds.{compile-bounded}
use Rattle.lookahead.proofs.Learned.{start-learns, step-learns}
use Rattle.words.specs.Layout.{slots, start_at, step_at, full_word, state_word}
use Rattle.words.specs.Words.{word, held, kept_in}
use Rattle.cache.specs.Recording.{Learned, record_new, record_outcome, ask_start, ask_step}
use Rattle.cache.specs.Predict.{Meaning, chosen, undecided, at, meaning, meaning_of, predict_from, predict}
use Rattle.cache.specs.Lessons.{Stores, Records, says-full, says-alternative, says-held, says-new, no_slot, Obtains, as-recorded, worked-out}
use Rattle.cache.specs.Lessons.{ObtainsStart, ObtainsStep, NamesAlternative, NamesSlot, Pursues, names-one, says_none, no-token, steps, Foretells}
use Rattle.cache.proofs.FieldLaws.{kept-packable}
use Rattle.cache.proofs.FindLaws.{found}
use Rattle.cache.proofs.RecordLaws.{put_at, by_room, by_find, by_word, ask, start-ask, step-ask}
use Rattle.cache.proofs.FollowLaws.{meaning-none, meaning-beyond, meaning-chosen, meaning-state, meaning-is, follow-unsure, follow-sure, follow-over}
use Rattle.cache.proofs.FollowLaws.{follow-on}

-- ---- recording
new-recorded : (c : List ℕ) (a i : ℕ) (ks : List Config) → ((s : ℕ) → ¬ Stores c a ks s)
    → Records c a i (state ks) (record_new (put_at i) c a ks).said (record_new (put_at i) c a ks).words
unfolding record_new
new-recorded c a i ks n = go (ltb (held c) (slots (length c))) refl
  where
    go : (b : Bool) → ltb (held c) (slots (length c)) ≡ b → Records c a i (state ks) (by_room c i a ks b).said (by_room c i a ks b).words
    go true e = says-new n (ltb-true (held c) (slots (length c)) e)
    go false e = no_slot n (ltb-false (held c) (slots (length c)) e)

-- every outcome is recorded as the lessons say
pub records : (c : List ℕ) (a i : ℕ) (o : Outcome) → Records c a i o (record_outcome (put_at i) c a o).said (record_outcome (put_at i) c a o).words
unfolding record_outcome
records c a i full = says-full
records c a i (alternative b) = says-alternative
records c a i (state ks) = go (found c a ks)
  where
    go : {o : Option ℕ} → LowestIs (Stores c a ks) o → Records c a i (state ks) (by_find c i a ks o).said (by_find c i a ks o).words
    go (this s x l) = says-held s x l
    go (nothing n) = new-recorded c a i ks n

-- ---- asking
obtains : (c : List ℕ) (a i : ℕ) (Given : Outcome → Type 0) (o : Outcome) → Given o → Obtains c a i Given (ask c i a o).said (ask c i a o).words
obtains c a i Given o h = go (eqb (word c i) 0) refl
  where
    go : (b : Bool) → eqb (word c i) 0 ≡ b → Obtains c a i Given (by_word c i a o b).said (by_word c i a o b).words
    go true e = worked-out (eqb-true (word c i) 0 e) h (records c a i o)
    go false e = as-recorded (eqb-false (word c i) 0 e)

-- ---- what a word means, in facts
data Meant (g : Grammar) (a w : ℕ) (c : List ℕ) : Meaning → Type 0 where
  one : NamesAlternative g a w → Meant g a w c (chosen w)
  slot : {s : ℕ} → NamesSlot c w s → Meant g a w c (at s)
  other : ¬ NamesAlternative g a w → ((s : ℕ) → ¬ NamesSlot c w s) → Meant g a w c undecided

module _ (g : Grammar) (a w : ℕ) (c : List ℕ) (few : length (alternatives g a) ≤ max_productions) where
  abbrev said : Meaning
  said = meaning (length (alternatives g a)) (slots (length c)) w

  -- one of the words behind FULL
  behind : full_word < w → Dec (w - state_word 0 < slots (length c)) → Meant g a w c said
  behind h (yes l) =
      let e : w ≡ state_word (w - state_word 0) = omega arith in
      rw (meaning-state (length (alternatives g a)) (slots (length c)) w (w - state_word 0) e l) (slot (record { is = e; slot = l }))
  behind h (no l) =
      rw (meaning-beyond (length (alternatives g a)) (slots (length c)) w h (omega arith))
      (other (λ x. omega (arith, x.most)) (λ s x. omega (arith, x.is, x.slot)))

  -- one of those before it
  before : w ≤ full_word → Dec (0 < w) → Dec (length (alternatives g a) < w) → Meant g a w c said
  before h (yes p) (no m) =
      rw (meaning-chosen (length (alternatives g a)) (slots (length c)) w p (omega arith) h) (one (record { least = p; most = omega arith }))
  before h (yes p) (yes m) =
      rw (meaning-none (length (alternatives g a)) (slots (length c)) w h (λ _. m)) (other (λ x. omega (arith, x.most)) (λ s x. omega (arith, x.is)))
  before h (no p) m =
      rw (meaning-none (length (alternatives g a)) (slots (length c)) w h (λ y. absurd (p y))) (other (λ x. p x.least) (λ s x. omega (arith, x.is)))

  meant : Meant g a w c said
  meant = go (dec_lt full_word w)
    where
      go : Dec (full_word < w) → Meant g a w c said
      go (yes h) = behind h (dec_lt (w - state_word 0) (slots (length c)))
      go (no h) = before (omega arith) (dec_lt 0 w) (dec_lt (length (alternatives g a)) w)

-- ---- in every grammar that is read from bytes
module _ (r : Rules) (limits : Limited r) where
  abbrev g : Grammar
  g = compile r

  pub obtains-start : (c : List ℕ) (a : ℕ) → ObtainsStart (compile r) c a (ask_start (compile r) c a).said (ask_start (compile r) c a).words
  obtains-start c a =
      rw (start-ask g c a) (obtains c a (start_at a) (StartGives g a) (start_outcome g a) ((start-learns r limits a (start_outcome g a)).1 refl))

  pub obtains-step : (c : List ℕ) (a s t : ℕ)
      → ObtainsStep (compile r) c a s t (ask_step (compile r) c a s t).said (ask_step (compile r) c a s t).words
  obtains-step c a s t =
      rw (step-ask g c a s t)
      (obtains c a (step_at s t) (StepGives g t (kept_in c s)) (step_outcome g t (kept_in c s))
      ((step-learns r limits (kept_in c s) (kept-packable c s) t (step_outcome g t (kept_in c s))).1 refl))

  -- a prediction that goes on
  abbrev Gone : ℕ → List ℕ → Learned → Type 0
  Gone a ts l = Pursues (compile r) a ts l.said l.words (predict_from (compile r) a ts l).forecast (predict_from (compile r) a ts l).state

  pursues : (a : ℕ) (ts : List ℕ) (l : Learned) → Gone a ts l
  pursues a [] l = go (subst (Meant g a l.said l.words) (sym (meaning-is g a l)) (meant g a l.said l.words ((compile-bounded r limits).few a))) refl
    where
      go : {m : Meaning} → Meant g a l.said l.words m → meaning_of g a l ≡ m → Gone a [] l
      go (one x) e = rw (follow-sure g [] a l.said l e) (names-one x)
      go (slot {s = s} x) e = rw (follow-over g a s l e) (no-token x)
      go (other n p) e = rw (follow-unsure g [] a l e) (says_none n p)
  pursues a (t ∷ ts) l =
      go (subst (Meant g a l.said l.words) (sym (meaning-is g a l)) (meant g a l.said l.words ((compile-bounded r limits).few a))) refl
      (λ m. pursues a ts m)
    where
      go : {m : Meaning} → Meant g a l.said l.words m → meaning_of g a l ≡ m → ((m : Learned) → Gone a ts m) → Gone a (t ∷ ts) l
      go (one x) e rec = rw (follow-sure g (t ∷ ts) a l.said l e) (names-one x)
      go (slot {s = s} x) e rec =
          rw (follow-on g t ts a s l e) (steps x (obtains-step l.words a s t) (rec (ask_step g l.words a s t)))
      go (other n p) e rec = rw (follow-unsure g (t ∷ ts) a l e) (says_none n p)

  -- A PREDICTION is the one that the lessons say
  pub foretells : (c : List ℕ) (a : ℕ) (ts : List ℕ)
      → Foretells (compile r) c a ts (predict (compile r) c a ts).forecast (predict (compile r) c a ts).state
  unfolding predict
  foretells c a ts = record {
    said = (ask_start g c a).said;
    words = (ask_start g c a).words;
    starts = obtains-start c a;
    goes_on = pursues a ts (ask_start g c a);
  }
