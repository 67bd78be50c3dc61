-- Recording as the code does it: the configurations of a state are words, and the word that records an outcome is named by its address.
use Rattle.std.specs.Prelude.{Bool, ◌&&◌, cond, List, ℕ, suc, ◌+◌, ◌*◌, ◌/◌, ◌≤◌, eqb, ltb, length, set, take, drop, Some, None}
use Rattle.std.specs.Prelude as prelude
use Rattle.std.proofs.Math.Option.{Option, none, some}
use Rattle.std.proofs.lemmas.List.Edits.{sets}
use Rattle.base.specs.Search.{lowest_from}
use Rattle.lookahead.specs.Closing.{same_list, max_kept}
use Rattle.learning.specs.declared.rules.Outcome.{Outcome}
use Rattle.learning.specs.declared.rules.Outcome.TheVariants.{Full, Alternative, State}
use Rattle.configurations.specs.Packing.{config_words}
use Rattle.words.specs.Layout.{slots, held_at, slot_at, count_at, configs_at, full_word, state_word}
use Rattle.words.specs.Words.{held, searched, decision, kept_words}
use Rattle.cache.specs.Recording.{Learned, learned}

-- slot s holds these words for decision a
unfoldable pub holds_words : List ℕ → ℕ → List ℕ → ℕ → Bool
unfolding decision kept_words same_list
holds_words c a ws s = let same = same_list (kept_words c s) ws in eqb (decision c s) a && same

-- the slot that holds them
unfoldable pub find_words : List ℕ → ℕ → List ℕ → Option ℕ
unfolding lowest_from holds_words searched
find_words c a ws = lowest_from (holds_words c a ws) 0 (searched c)

-- the same, as the code answers
abbrev pub found_in : Option ℕ → prelude.Option ℕ
found_in none = None
found_in (some s) = Some s

-- a state of the configurations of these words in the next slot
unfoldable pub add_words : List ℕ → ℕ → List ℕ → List ℕ
unfolding held
add_words c a ws =
    set (sets (set (set c (slot_at (held c)) a) (count_at (held c)) (length ws / config_words)) (configs_at (held c)) ws) held_at (suc (held c))

-- word i records the outcome w
abbrev pub say_word : ℕ → List ℕ → ℕ → Learned
say_word i c w = learned w (set c i w)

-- a state that no slot holds
unfoldable pub new_words : ℕ → List ℕ → ℕ → List ℕ → Learned
unfolding held slots add_words
new_words i c a ws =
    let new = say_word i (add_words c a ws) (state_word (held c)) in
    cond (ltb (held c) (slots (length c))) new (learned full_word c)

-- a state
abbrev pub on_found : ℕ → List ℕ → ℕ → List ℕ → Option ℕ → Learned
on_found i c a ws none = new_words i c a ws
on_found i c a ws (some s) = say_word i c (state_word s)

unfoldable pub state_words : ℕ → List ℕ → ℕ → List ℕ → Learned
unfolding find_words new_words
state_words i c a ws = on_found i c a ws (find_words c a ws)

-- an outcome that was told, with words for its state
unfoldable pub outcome_words : ℕ → List ℕ → ℕ → Outcome → List ℕ → Learned
unfolding state_words
outcome_words i c a Full ws = say_word i c full_word
outcome_words i c a (Alternative b) ws = say_word i c b
outcome_words i c a (State f n) ws = state_words i c a (take (config_words * n) (drop (config_words * f) ws))

-- a state that was told has no more configurations than may be kept, and their words are among these
unfoldable pub RoomFor : Outcome → List ℕ → Type 0
RoomFor Full ws = Unit {0}
RoomFor (Alternative b) ws = Unit {0}
RoomFor (State f n) ws = (n ≤ max_kept) × (config_words * (f + n) ≤ length ws)
