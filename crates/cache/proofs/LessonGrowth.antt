-- EVERY EARLIER RECORD IS KEPT, whatever words a cache holds: recording touches a word that said nothing, the next slot and the count of states alone.
use Rattle.cache.specs.Predictor.{Forecast}
use mathlib.Core.Path.{◌≡◌, refl, ◌∙◌}
use mathlib.Core.List.Memᴰ
use mathlib.Core.List.{List}
use Prim.Native.Nat.{ℕ, ◌≤◌, ◌<◌}
use lib.ListN.{length, set}
use Rattle.grammar.specs.Limits.{max_nonterminals, max_kinds}
use Rattle.grammar.specs.Decode.{Rules}
use Rattle.grammar.specs.Grammar.{Grammar, compile, Limited}
use Rattle.lookahead.specs.Configs.{Config}
use Rattle.lookahead.specs.Closing.{max_kept}
use Rattle.lookahead.specs.Outcomes.{Outcome, state, start_configs, step_configs, start_outcome, step_outcome}
use Rattle.lookahead.specs.Rules.{Each}
use Rattle.lookahead.specs.Given.{StartGives, StepGives}
use Rattle.lookahead.proofs.StateLaws.{outcome-state}
use Rattle.lookahead.proofs.Learned.{start-learns, step-learns}
use Rattle.words.specs.Layout.{full_word, state_word}
use Rattle.words.specs.Words.{word, held, kept_in, add_state}
use Rattle.lookahead.specs.Configs.{Decides}
use Rattle.cache.specs.Coherent.{Extends}
use Rattle.cache.specs.Lessons.{Records, says-full, says-alternative, says-held, says-new, no_slot, Obtains, as-recorded, worked-out}
use Rattle.cache.specs.Lessons.{ObtainsStart, ObtainsStep, Pursues, names-one, says_none, no-token, steps, Foretells}
use Rattle.cache.proofs.SuitLaws.{compile-decisions}
use Rattle.cache.proofs.ExtendLaws.{extends-refl, extends-trans}
use Rattle.cache.proofs.FieldLaws.{Cell, start_cell, step-cell, kept-packable}
use Rattle.cache.proofs.StayLaws.{put-extends, cell_stays, new-extends}

-- ---- one outcome
module _ (g : Grammar) {c : List ℕ} {a i : ℕ} (cell : Cell i) where
  records-grow : {o : Outcome} {w : ℕ} {d : List ℕ} → word c i ≡ 0 → ((ks : List Config) → o ≡ state ks → length ks ≤ max_kept) → Records c a i o w d
      → Extends g c d
  records-grow z few says-full = put-extends c cell full_word g z
  records-grow z few (says-alternative {b = b}) = put-extends c cell b g z
  records-grow z few (says-held s x l) = put-extends c cell (state_word s) g z
  records-grow z few (says-new {ks = ks} n room) =
      let f = few ks refl in
      let e = cell_stays c a ks room f cell ∙ z in
      extends-trans g c (add_state c a ks) (set (add_state c a ks) i (state_word (held c))) (new-extends c a ks room f g)
      (put-extends (add_state c a ks) cell (state_word (held c)) g e)
  records-grow z few (no_slot n full) = extends-refl g c

  obtains-grows : {Given : Outcome → Type 0} → ((ks : List Config) → Given (state ks) → length ks ≤ max_kept) → {w : ℕ} {d : List ℕ}
      → Obtains c a i Given w d → Extends g c d
  obtains-grows few (as-recorded n) = extends-refl g c
  obtains-grows {Given} few (worked-out {o = o} z h x) = records-grow z (λ ks e. few ks (let y : Given (state ks) = rw e at h in y)) x

-- ---- in every grammar that is read from bytes
module _ (r : Rules) (limits : Limited r) where
  -- what starts and steps give has room in a slot
  start-few : (a : ℕ) (ks : List Config) → StartGives (compile r) a (state ks) → length ks ≤ max_kept
  unfolding start_outcome
  start-few a ks x = (outcome-state (compile r) (start_configs (compile r) a) ks ((start-learns r limits a (state ks)).0 x)).few

  step-few : (c : List ℕ) (s t : ℕ) (ks : List Config) → StepGives (compile r) t (kept_in c s) (state ks) → length ks ≤ max_kept
  unfolding step_outcome
  step-few c s t ks x =
      (outcome-state (compile r) (step_configs (compile r) t (kept_in c s)) ks
      ((step-learns r limits (kept_in c s) (kept-packable c s) t (state ks)).0 x)).few

  pub start-grows : {c d : List ℕ} {a w : ℕ} → a < max_nonterminals → ObtainsStart (compile r) c a w d → Extends (compile r) c d
  start-grows {a = a} l x = obtains-grows (compile r) (start_cell a l refl) (start-few a) x

  pub step-grows : {c d : List ℕ} {a w : ℕ} (s t : ℕ) → t ≤ max_kinds → ObtainsStep (compile r) c a s t w d → Extends (compile r) c d
  step-grows {c} s t l x = obtains-grows (compile r) (step-cell s t l refl) (step-few c s t) x

  pursues-grows : {a w : ℕ} {ts c d : List ℕ} {x : Forecast} → Each (λ (t : ℕ). t ≤ max_kinds) ts → Pursues (compile r) a ts w c x d
      → Extends (compile r) c d
  pursues-grows l (names-one {c = c} n) = extends-refl (compile r) c
  pursues-grows l (says_none {c = c} n p) = extends-refl (compile r) c
  pursues-grows l (no-token {c = c} q) = extends-refl (compile r) c
  pursues-grows l (steps {t = t} {s = s} {c = c} {d = d} {e = e} q o x) =
      extends-trans (compile r) c d e (step-grows s t (l t (Memᴰ.head refl)) o) (pursues-grows (λ u m. l u (Memᴰ.tail m)) x)

  -- a prediction, over tokens that steps are recorded of
  pub foretells-grows : {a : ℕ} {ts c d : List ℕ} {x : Forecast} → Decides (compile r) a → Each (λ (t : ℕ). t ≤ max_kinds) ts
      → Foretells (compile r) c a ts x d
      → Extends (compile r) c d
  foretells-grows {a} {c = c} {d = d} h l x =
      extends-trans (compile r) c x.words d (start-grows (compile-decisions r limits a h) x.starts) (pursues-grows l x.goes_on)
