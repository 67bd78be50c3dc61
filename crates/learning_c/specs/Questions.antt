-- Single questions to a cache: what is answered and recorded, where the grammar is sound and the cache has what is asked for; else 0, and nothing.
use Rattle.std.specs.Prelude.{cond, List, ℕ, ltb, length}
use Rattle.grammar.specs.Limits.{max_kinds}
use Rattle.grammar.specs.Grammar.{Grammar}
use Rattle.derivation.specs.Gate.{at_gate, sound_gate}
use Rattle.words.specs.Layout.{min_words, slots}
use Rattle.words.specs.Words.{decision}
use Rattle.cache.specs.Recording.{Learned, learned, ask_start, ask_step}

-- the start of decision a, for a sound grammar
unfoldable pub start_in : Grammar → List ℕ → ℕ → Learned
unfolding ask_start
start_in g c a =
    let asked = ask_start g c a in
    let known = cond (ltb a (length g.starts)) asked (learned 0 c) in
    cond (ltb (length c) min_words) (learned 0 c) known

-- the step from slot s over token t, for a sound grammar; the decision is the one that the slot says
unfoldable pub step_in : Grammar → List ℕ → ℕ → ℕ → Learned
unfolding ask_step decision slots
step_in g c s t =
    let asked = ask_step g c (decision c s) s t in
    let known = cond (ltb s (slots (length c))) asked (learned 0 c) in
    cond (ltb max_kinds t) (learned 0 c) known

-- asked of any bytes
unfoldable pub start_asked : List ℕ → List ℕ → ℕ → Learned
unfolding sound_gate start_in
start_asked bytes c a = at_gate (λ n p. learned 0 c) (λ g. start_in g c a) (sound_gate bytes)

unfoldable pub step_asked : List ℕ → List ℕ → ℕ → ℕ → Learned
unfolding sound_gate step_in
step_asked bytes c s t = at_gate (λ n p. learned 0 c) (λ g. step_in g c s t) (sound_gate bytes)
