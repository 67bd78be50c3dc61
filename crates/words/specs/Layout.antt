-- The layout of a cache of L words (the scope leaves it to us). All that is not named here is 0.
--   0              always 0, and looked at by the audit alone
--   1, 2           L, its low and its high 32 bits
--   3              how many grammar bytes there are
--   4              how many states are held
--   32 .. 63       the outcome of the start of decision 0 .. 31
--   64 ..          the grammar bytes, four to a word, the first the lowest
--   2,048 + 320 s  slot s. The states held are those of the first slots. In a slot:
--     0            the decision
--     1            how many configurations are kept, at most 64
--     2 .. 102     the outcome of the step over token 0 .. 100
--     128 ..       the kept configurations in ascending order, three words each
-- An outcome is one word: 0 where none is recorded, 1 to 16 for that alternative, 17 for FULL, 18 + s for state s.
use Rattle.std.specs.Prelude.{ℕ, suc, ◌+◌, ◌-◌, ◌*◌, ◌/◌, min}
use Rattle.grammar.specs.Limits.{max_nonterminals, max_productions}
use Rattle.configurations.specs.Packing as packing

-- ---- sizes
-- the words before the slots
abbrev pub fixed_words : ℕ
fixed_words = 2048

-- the words of a slot before its configurations
abbrev pub slot_head : ℕ
slot_head = 128

-- the words of the configurations that a slot may keep
abbrev pub kept_room : ℕ
kept_room = packing.max_kept_words

-- the words of a slot
abbrev pub slot_words : ℕ
slot_words = slot_head + kept_room

-- the slots that are used of a long cache
abbrev pub max_slots : ℕ
max_slots = 1024

-- the shortest cache: one slot
abbrev pub min_words : ℕ
min_words = fixed_words + slot_words

-- the slots of a cache of l words
unfoldable pub slots : ℕ → ℕ
slots l = min max_slots ((l - fixed_words) / slot_words)

-- ---- addresses
-- the length, in two words
abbrev pub length_at : ℕ
length_at = 1

-- how many grammar bytes there are
abbrev pub byte_count_at : ℕ
byte_count_at = length_at + 2

-- how many states are held
abbrev pub held_at : ℕ
held_at = suc byte_count_at

-- the start of decision 0
abbrev pub starts_at : ℕ
starts_at = 32

-- the start of decision a
abbrev pub start_at : ℕ → ℕ
start_at a = starts_at + a

-- the first grammar bytes
abbrev pub bytes_at : ℕ
bytes_at = start_at max_nonterminals

-- slot s, which begins with its decision
abbrev pub slot_at : ℕ → ℕ
slot_at s = fixed_words + slot_words * s

-- how many configurations slot s keeps
abbrev pub count_at : ℕ → ℕ
count_at s = suc (slot_at s)

-- in a slot, the step over token 0
abbrev pub steps_at : ℕ
steps_at = 2

-- the step of slot s over token t
abbrev pub step_at : ℕ → ℕ → ℕ
step_at s t = slot_at s + (steps_at + t)

-- the configurations of slot s
abbrev pub configs_at : ℕ → ℕ
configs_at s = slot_at s + slot_head

-- ---- outcomes as words
-- FULL, behind every alternative
abbrev pub full_word : ℕ
full_word = suc max_productions

-- state s, behind FULL
abbrev pub state_word : ℕ → ℕ
state_word s = suc full_word + s
