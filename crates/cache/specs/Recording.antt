-- What is recorded: outcomes that are looked up, or else worked out and recorded (the scope, "What the cache learns").
use Rattle.std.specs.Prelude.{Bool, true, false, ◌&&◌, cond, List, ℕ, min, eqb, ltb, length}
use Rattle.std.proofs.Math.Option.{Option, none, some}
use Rattle.base.specs.Search.{lowest_from}
use Rattle.grammar.specs.Grammar.{Grammar}
use Rattle.lookahead.specs.Configs.{Config}
use Rattle.lookahead.specs.Closing.{same_list}
use Rattle.lookahead.specs.Outcomes.{Outcome, full, alternative, state, start_outcome, step_outcome}
use Rattle.words.specs.Layout.{slots, full_word, state_word}
use Rattle.configurations.specs.Packing.{pack_all}
use Rattle.words.specs.Words.{held, start_of, step_of, decision, kept_words, kept_in, set_start, set_step, add_state}

-- a word that says an outcome, and the cache after it
pub record Learned : Type 0 where
  pub said : ℕ
  pub words : List ℕ

abbrev pub learned : ℕ → List ℕ → Learned
learned w c = record { said = w; words = c }

-- slot s holds these configurations for decision a
unfoldable pub holds? : List ℕ → ℕ → List Config → ℕ → Bool
unfolding decision kept_words same_list pack_all
holds? c a ks s = let same = same_list (kept_words c s) (pack_all ks) in eqb (decision c s) a && same

-- the slot that holds them, among those that hold states
unfoldable pub find : List ℕ → ℕ → List Config → Option ℕ
unfolding lowest_from holds? held slots
find c a ks = lowest_from (holds? c a ks) 0 (min (held c) (slots (length c)))

-- a state that no slot holds takes the next one; with no slot free nothing is recorded, and the outcome counts as FULL
unfoldable pub record_new : (List ℕ → ℕ → List ℕ) → List ℕ → ℕ → List Config → Learned
unfolding held slots add_state
record_new put c a ks =
    let w = state_word (held c) in
    let c' = put (add_state c a ks) w in
    cond (ltb (held c) (slots (length c))) (learned w c') (learned full_word c)

-- the outcome of decision a, recorded by `put`
unfoldable pub record_outcome : (List ℕ → ℕ → List ℕ) → List ℕ → ℕ → Outcome → Learned
unfolding find record_new
record_outcome put c a full = learned full_word (put c full_word)
record_outcome put c a (alternative b) = learned b (put c b)
record_outcome put c a (state ks) = elim (find c a ks) [ none ↦ record_new put c a ks | some s ↦ learned (state_word s) (put c (state_word s)) ]

-- the start of decision a: as recorded, or worked out and recorded
unfoldable pub ask_start : Grammar → List ℕ → ℕ → Learned
unfolding start_of record_outcome set_start start_outcome
ask_start g c a = elim (eqb (start_of c a) 0) [ true ↦ record_outcome (set_start a) c a (start_outcome g a) | false ↦ learned (start_of c a) c ]

-- the step of state s of decision a over token t
unfoldable pub ask_step : Grammar → List ℕ → ℕ → ℕ → ℕ → Learned
unfolding step_of record_outcome set_step step_outcome kept_in
ask_step g c a s t = elim (eqb (step_of c s t) 0)
    [ true ↦ record_outcome (set_step s t) c a (step_outcome g t (kept_in c s)) | false ↦ learned (step_of c s t) c ]
