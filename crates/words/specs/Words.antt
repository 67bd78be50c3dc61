-- The fields of a cache's words: readers, total on any words, and writers.
use Rattle.std.specs.Prelude.{List, ℕ, suc, ◌*◌, min, length, get_or, set, take, drop}
use Rattle.std.proofs.lemmas.List.Edits.{sets}
use Rattle.lookahead.specs.Configs.{Config}
use Rattle.lookahead.specs.Closing.{max_kept}
use Rattle.configurations.specs.Packing.{config_words, pack_all, unpack_all}
use Rattle.words.specs.Layout.{slots, held_at, start_at, slot_at, count_at, step_at, configs_at}

-- ---- readers
abbrev pub word : List ℕ → ℕ → ℕ
word c i = get_or c i 0

-- how many states are held
unfoldable pub held : List ℕ → ℕ
held c = word c held_at

-- the slots that are searched: those that hold states
unfoldable pub searched : List ℕ → ℕ
unfolding held slots
searched c = min (held c) (slots (length c))

-- what is recorded for the start of decision a
unfoldable pub start_of : List ℕ → ℕ → ℕ
start_of c a = word c (start_at a)

-- what is recorded for the step of state s over token t
unfoldable pub step_of : List ℕ → ℕ → ℕ → ℕ
step_of c s t = word c (step_at s t)

-- the decision of state s
unfoldable pub decision : List ℕ → ℕ → ℕ
decision c s = word c (slot_at s)

-- how many configurations state s keeps
unfoldable pub kept_count : List ℕ → ℕ → ℕ
kept_count c s = min max_kept (word c (count_at s))

-- their words, and they themselves
unfoldable pub kept_words : List ℕ → ℕ → List ℕ
unfolding kept_count
kept_words c s = take (config_words * kept_count c s) (drop (configs_at s) c)

unfoldable pub kept_in : List ℕ → ℕ → List Config
unfolding kept_words unpack_all
kept_in c s = unpack_all (kept_words c s)

-- ---- writers
unfoldable pub set_start : ℕ → List ℕ → ℕ → List ℕ
set_start a c w = set c (start_at a) w

unfoldable pub set_step : ℕ → ℕ → List ℕ → ℕ → List ℕ
set_step s t c w = set c (step_at s t) w

-- a state of decision a in the next slot
unfoldable pub add_state : List ℕ → ℕ → List Config → List ℕ
unfolding held pack_all
add_state c a ks = set (sets (set (set c (slot_at (held c)) a) (count_at (held c)) (length ks)) (configs_at (held c)) (pack_all ks)) held_at (suc (held c))
