-- What lookahead tells, recorded by words, is what the definitions record of the outcome; and asking by the code's ways out.
use mathlib.Core.Path.{◌≡◌, refl, sym, ap, ◌∙◌}
use mathlib.Core.Option.{Option, none, some}
use mathlib.Core.List.{List}
use Prim.Native.Nat.{ℕ, ◌+◌, ◌-◌, ◌*◌, ◌/◌, ◌≤◌}
use native.Mathlib.Omega.{arith}
use lib.ListN.{length, set, take, drop, length-take, length-drop}
use borrow.Author.Tests.{eq-eqb, ne_eqb}
use Rattle.grammar.specs.Grammar.{Grammar}
use Rattle.lookahead.specs.Configs.{Config}
use Rattle.lookahead.specs.Closing.{max_kept}
use Rattle.configurations.specs.Packing.{pack_all, unpack_all, config_words}
use Rattle.lookahead.specs.Outcomes.{Outcome, state, start_outcome, step_outcome}
use Rattle.learning.specs.inside.Told.{Tells}
use Rattle.learning.specs.declared.rules.Outcome as told
use Rattle.learning.specs.declared.rules.Outcome.TheVariants.{Full, Alternative, State}
use Rattle.configurations.proofs.PackLaws.{length-pack_all}
use Rattle.words.specs.Layout.{start_at, step_at, full_word, state_word}
use Rattle.words.specs.Words.{word, start_of, step_of, kept_words, kept_in, add_state, searched}
use Rattle.cache.specs.inside.Calls.{KeptConfigs}
use Rattle.cache.specs.Recording.{Learned, learned, holds?, find, record_new, record_outcome, ask_start, ask_step}
use Rattle.cache.specs.inside.ByWords.{holds_words, find_words, add_words, say_word, new_words, on_found, state_words, outcome_words, RoomFor}
use Rattle.cache.proofs.RecordLaws.{put_at, ask, start-ask, step-ask}

-- the words of a state are as many as its configurations say
pub told-room : (o : told.Outcome) (ws : List ℕ) (x : Outcome) → Tells o ws x → RoomFor o ws
unfolding Tells RoomFor
told-room Full ws x h = tt
told-room (Alternative b) ws x h = tt
told-room (State f n) ws x h =
    let e = ap (λ (l : List ℕ). length l) h.words ∙ length-pack_all h.configs in
    (h.few, omega (arith, e, h.count, h.within, length-take (config_words * n) (drop (config_words * f) ws), length-drop (config_words * f) ws))

-- a state by its configurations is one by its words
state-by-words : (i : ℕ) (c : List ℕ) (a : ℕ) (ks : List Config) → record_outcome (put_at i) c a (state ks) ≡ state_words i c a (pack_all ks)
unfolding record_outcome state_words find find_words holds? holds_words searched record_new new_words add_state add_words
state-by-words i c a ks = go (find_words c a (pack_all ks))
  where
    count : length (pack_all ks) / config_words ≡ length ks
    count = omega (arith, length-pack_all ks)

    go : (o : Option ℕ) → elim o as (λ _. Learned) [ none ↦ record_new (put_at i) c a ks | some s ↦ learned (state_word s) (set c i (state_word s)) ]
        ≡ on_found i c a (pack_all ks) o
    go none = rw count refl
    go (some s) = refl

pub told_is : (i : ℕ) (c : List ℕ) (a : ℕ) (o : told.Outcome) (ws : List ℕ) (x : Outcome) → Tells o ws x → outcome_words i c a o ws
    ≡ record_outcome (put_at i) c a x
unfolding Tells outcome_words record_outcome
told_is i c a Full ws x h = rw h
told_is i c a (Alternative b) ws x h = rw h
told_is i c a (State f n) ws x h = rw (h.is, h.words) (sym (state-by-words i c a h.configs))

-- ---- recording by the code's ways out
-- the words of a state among those that were told
module _ (o : told.Outcome) (ws : List ℕ) {f n : ℕ} (e : o ≡ State f n) (h : RoomFor o ws) where
  pub room-state : (n ≤ max_kept) × (config_words * (f + n) ≤ length ws)
  unfolding RoomFor
  room-state = rw e at h

  pub room-part : KeptConfigs (take (config_words * (f + n) - config_words * f) (drop (config_words * f) ws))
  room-part =
      let l = length-take (config_words * (f + n) - config_words * f) (drop (config_words * f) ws) in
      let m = length-drop (config_words * f) ws in
      let (few, within) = room-state in
      record { few = omega arith; whole = omega arith }

module _ (i : ℕ) (c : List ℕ) (a : ℕ) (o : told.Outcome) (ws : List ℕ) {x : Learned} where
  pub record-full : o ≡ Full → x ≡ say_word i c full_word → x ≡ outcome_words i c a o ws
  unfolding outcome_words
  record-full e h = rw e h

  pub record-alternative : {b : ℕ} → o ≡ Alternative b → x ≡ say_word i c b → x ≡ outcome_words i c a o ws
  unfolding outcome_words
  record-alternative e h = rw e h

  pub record_is : {f n : ℕ} → o ≡ State f n → x ≡ state_words i c a (take (config_words * (f + n) - config_words * f) (drop (config_words * f) ws))
      → x ≡ outcome_words i c a o ws
  unfolding outcome_words
  record_is {f} {n} e h = let z : config_words * (f + n) - config_words * f ≡ config_words * n = omega arith in rw e (rw z at h)

-- ---- the step from a slot's configurations
pub step-kept : (g : Grammar) (c : List ℕ) (s t : ℕ) (o : told.Outcome) (ws : List ℕ) {ks : List ℕ} → ks ≡ kept_words c s
    → Tells o ws (step_outcome g t (unpack_all ks)) → Tells o ws (step_outcome g t (kept_in c s))
unfolding kept_in
step-kept g c s t o ws e h = rw (← e) h

-- ---- asking
-- what word i records
asked-recorded : (c : List ℕ) (i a : ℕ) (o : Outcome) → (word c i ≡ 0 → ⊥) → learned (word c i) c ≡ ask c i a o
asked-recorded c i a o n = rw (ne_eqb (word c i) 0 n)

-- nothing is recorded yet
asked-learned : (i : ℕ) (c : List ℕ) (a : ℕ) (o : told.Outcome) (ws : List ℕ) (x : Outcome) {l : Learned} → word c i ≡ 0 → Tells o ws x → l
    ≡ outcome_words i c a o ws
    → l ≡ ask c i a x
asked-learned i c a o ws x z t e = rw (eq-eqb (word c i) 0 z) (e ∙ told_is i c a o ws x t)

module _ (g : Grammar) (c : List ℕ) (a : ℕ) where
  pub start-recorded : {w : ℕ} → w ≡ start_of c a → (w ≡ 0 → ⊥) → learned w c ≡ ask_start g c a
  unfolding start_of
  start-recorded e n = rw e (asked-recorded c (start_at a) a (start_outcome g a) (λ z. n (e ∙ z)) ∙ sym (start-ask g c a))

  pub start-learned : (o : told.Outcome) (ws : List ℕ) {l : Learned} → start_of c a ≡ 0 → Tells o ws (start_outcome g a) → l
      ≡ outcome_words (start_at a) c a o ws
      → l ≡ ask_start g c a
  unfolding start_of
  start-learned o ws z t e = asked-learned (start_at a) c a o ws (start_outcome g a) z t e ∙ sym (start-ask g c a)

  module _ (s t : ℕ) where
    pub step-recorded : {w : ℕ} → w ≡ step_of c s t → (w ≡ 0 → ⊥) → learned w c ≡ ask_step g c a s t
    unfolding step_of
    step-recorded e n = rw e (asked-recorded c (step_at s t) a (step_outcome g t (kept_in c s)) (λ z. n (e ∙ z)) ∙ sym (step-ask g c a s t))

    pub step-learned : (o : told.Outcome) (ws : List ℕ) {l : Learned} {i : ℕ} → i ≡ step_at s t → step_of c s t ≡ 0
        → Tells o ws (step_outcome g t (kept_in c s))
        → l ≡ outcome_words i c a o ws → l ≡ ask_step g c a s t
    unfolding step_of
    step-learned o ws q z h e = asked-learned (step_at s t) c a o ws (step_outcome g t (kept_in c s)) z h (e ∙ rw q) ∙ sym (step-ask g c a s t)
