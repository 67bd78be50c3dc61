-- Asking keeps the length of any words, coherent or not.
use mathlib.Core.Path.{◌≡◌, refl, ◌∙◌}
use mathlib.Core.Bool.{Bool, true, false, cond}
use mathlib.Core.Option.{Option, none, some}
use mathlib.Core.List.{List}
use Prim.Native.Nat.{ℕ, suc}
use lib.Dec.{eqb, ltb}
use lib.ListN.{length, set, length-set}
use lib.Seq.{sets, length-sets}
use Rattle.grammar.specs.Grammar.{Grammar}
use Rattle.lookahead.specs.Configs.{Config}
use Rattle.lookahead.specs.Outcomes.{Outcome, full, alternative, state, start_outcome, step_outcome}
use Rattle.configurations.specs.Packing.{pack_all}
use Rattle.words.specs.Layout.{slots, held_at, start_at, slot_at, count_at, step_at, configs_at, full_word, state_word}
use Rattle.words.specs.Words.{held, start_of, step_of, kept_in, set_start, set_step, add_state}
use Rattle.cache.specs.Recording.{Learned, learned, find, record_new, record_outcome, ask_start, ask_step}

pub length-set_start : (a : ℕ) (c : List ℕ) (w : ℕ) → length (set_start a c w) ≡ length c
unfolding set_start
length-set_start a c w = length-set c (start_at a) w

pub length-set_step : (s t : ℕ) (c : List ℕ) (w : ℕ) → length (set_step s t c w) ≡ length c
unfolding set_step
length-set_step s t c w = length-set c (step_at s t) w

pub length-add_state : (c : List ℕ) (a : ℕ) (ks : List Config) → length (add_state c a ks) ≡ length c
unfolding add_state
length-add_state c a ks =
    let counted = set (set c (slot_at (held c)) a) (count_at (held c)) (length ks) in
    length-set (sets counted (configs_at (held c)) (pack_all ks)) held_at (suc (held c)) ∙ length-sets counted (configs_at (held c)) (pack_all ks)
    ∙ length-set (set c (slot_at (held c)) a) (count_at (held c)) (length ks) ∙ length-set c (slot_at (held c)) a

module _ (put : List ℕ → ℕ → List ℕ) (puts : (c : List ℕ) (w : ℕ) → length (put c w) ≡ length c) (c : List ℕ) (a : ℕ) where
  pub length-record_new : (ks : List Config) → length (record_new put c a ks).words ≡ length c
  unfolding record_new
  length-record_new ks = go (ltb (held c) (slots (length c)))
    where
      go : (b : Bool) → length (cond b (learned (state_word (held c)) (put (add_state c a ks) (state_word (held c)))) (learned full_word c)).words ≡ length c
      go true = puts (add_state c a ks) (state_word (held c)) ∙ length-add_state c a ks
      go false = refl

  pub length-record_outcome : (o : Outcome) → length (record_outcome put c a o).words ≡ length c
  unfolding record_outcome
  length-record_outcome full = puts c full_word
  length-record_outcome (alternative b) = puts c b
  length-record_outcome (state ks) = go (find c a ks)
    where
      go : (o : Option ℕ) → length (elim o as (λ _. Learned)
          [ none ↦ record_new put c a ks | some s ↦ learned (state_word s) (put c (state_word s)) ]).words ≡ length c
      go none = length-record_new ks
      go (some s) = puts c (state_word s)

  -- looked up, or else recorded
  length-looked : (b : Bool) (w : ℕ) (o : Outcome)
      → length (elim b as (λ _. Learned) [ true ↦ record_outcome put c a o | false ↦ learned w c ]).words ≡ length c
  length-looked true w o = length-record_outcome o
  length-looked false w o = refl

module _ (g : Grammar) (c : List ℕ) (a : ℕ) where
  pub length-ask_start : length (ask_start g c a).words ≡ length c
  unfolding ask_start
  length-ask_start = length-looked (set_start a) (length-set_start a) c a (eqb (start_of c a) 0) (start_of c a) (start_outcome g a)

  pub length-ask_step : (s t : ℕ) → length (ask_step g c a s t).words ≡ length c
  unfolding ask_step
  length-ask_step s t = length-looked (set_step s t) (length-set_step s t) c a (eqb (step_of c s t) 0) (step_of c s t) (step_outcome g t (kept_in c s))
