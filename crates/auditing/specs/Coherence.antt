-- WHICH WORDS ARE COHERENT, as a test that can be run: the layout, then that no decision holds two equal states, then every record. `Coherent` of crate `cache`
-- says the same with no test in it.
use Rattle.std.specs.Prelude.{Bool, true, ◌&&◌, ◌||◌, not, List, [], ◌∷◌, ℕ, suc, ◌+◌, ◌-◌, ◌*◌, eqb, ltb, leb, length}
use Rattle.base.specs.Search.{all_from}
use Rattle.grammar.specs.Limits.{max_nonterminals}
use Rattle.grammar.specs.Grammar.{Grammar, alternatives}
use Rattle.lookahead.specs.Configs.{Config}
use Rattle.lookahead.specs.Closing.{max_kept, same_list}
use Rattle.lookahead.specs.Order.{key}
use Rattle.lookahead.specs.Outcomes.{Outcome, full, alternative, state, start_outcome, step_outcome}
use Rattle.configurations.specs.Packing.{config_words, storable?, pack_all, unpack_all}
use Rattle.words.specs.Layout.{min_words, fixed_words, slots, length_at, held_at, starts_at, bytes_at, slot_at, count_at, step_at, configs_at}
use Rattle.words.specs.Layout.{full_word, state_word}
use Rattle.words.specs.Words.{word, held, start_of, step_of, decision, kept_count, kept_words, kept_in}
use Rattle.words.specs.Begin.{pack_bytes, begun?}

-- ---- words without a use
-- the words from i up to j are 0
unfoldable pub zeros? : List ℕ → ℕ → ℕ → Bool
unfolding all_from
zeros? c i j = all_from (λ (k : ℕ). eqb (word c k) 0) i (j - i)

-- those before the slots: word 0, those between the number of states and the starts, and those behind the n words of grammar bytes
unfoldable pub fixed? : ℕ → List ℕ → Bool
unfolding zeros?
fixed? n c = zeros? c 0 length_at && (zeros? c (suc held_at) starts_at && zeros? c (bytes_at + n) fixed_words)

-- ---- states
-- a nonterminal of two or more productions
unfoldable pub decides? : Grammar → ℕ → Bool
unfolding alternatives
decides? g a = ltb 1 (length (alternatives g a))

-- each below the next
unfoldable pub ascending? : List Config → Bool
unfolding key
ascending? [] = true
ascending? (c ∷ []) = true
ascending? (c ∷ d ∷ l) = let rest = ascending? (d ∷ l) in ltb (key c) (key d) && rest

-- the numbers of all are in range
unfoldable pub storable_all? : List Config → Bool
unfolding storable?
storable_all? [] = true
storable_all? (c ∷ l) = let rest = storable_all? l in storable? c && rest

-- the words of some configurations: no bit too many, all numbers in range, in ascending order
unfoldable pub kept? : List ℕ → Bool
unfolding same_list pack_all unpack_all storable_all? ascending?
kept? ws = let ks = unpack_all ws in let ordered = ascending? ks in same_list ws (pack_all ks) && (storable_all? ks && ordered)

-- slot s is laid out as a state: a decision, configurations, no more than may be kept, their words, and zeros in the steps over tokens above the grammar's, in
-- the words before the configurations and in those behind them
unfoldable pub slot? : Grammar → List ℕ → ℕ → Bool
unfolding decides? decision kept_words kept? zeros? kept_count
slot? g c s =
    let behind = zeros? c (configs_at s + config_words * kept_count c s) (slot_at (suc s)) in
    let steps = zeros? c (suc (step_at s g.kinds)) (configs_at s) in
    let configs = kept? (kept_words c s) in
    decides? g (decision c s) && (leb 1 (word c (count_at s)) && (leb (word c (count_at s)) max_kept && (configs && (steps && behind))))

-- THE LAYOUT, with n words of grammar bytes: no more states than slots, zeros where no field is, and every held slot
unfoldable pub laid_out? : Grammar → ℕ → List ℕ → Bool
unfolding held slots fixed? zeros? all_from slot?
laid_out? g n c =
    let all = all_from (slot? g c) 0 (held c) in
    let behind = zeros? c (slot_at (held c)) (length c) in
    leb (held c) (slots (length c)) && (fixed? n c && (behind && all))

-- ---- equal states
-- slots s and s' hold the same configurations for the same decision
unfoldable pub equal? : List ℕ → ℕ → ℕ → Bool
unfolding decision kept_words same_list
equal? c s s' = let same = same_list (kept_words c s) (kept_words c s') in eqb (decision c s) (decision c s') && same

-- no slot before s holds the state of s
unfoldable pub new? : List ℕ → ℕ → Bool
unfolding all_from equal?
new? c s = all_from (λ (s' : ℕ). not (equal? c s' s)) 0 s

-- NO DECISION HOLDS TWO EQUAL STATES
unfoldable pub single? : List ℕ → Bool
unfolding all_from new? held
single? c = all_from (new? c) 0 (held c)

-- ---- records
-- the word w names a held slot that keeps these words for decision a
unfoldable pub names? : List ℕ → ℕ → ℕ → List ℕ → Bool
unfolding held decision kept_words same_list
names? c a w ws =
    let s = w - state_word 0 in
    let same = same_list (kept_words c s) ws in
    leb (state_word 0) w && (ltb s (held c) && (eqb (decision c s) a && same))

-- the word w says the outcome o of decision a
unfoldable pub says? : List ℕ → ℕ → ℕ → Outcome → Bool
unfolding names? pack_all
says? c a w full = eqb w full_word
says? c a w (alternative b) = eqb w b
says? c a w (state ks) = names? c a w (pack_all ks)

-- nothing is recorded for the start of nonterminal a; or it is a decision, and what the rules give is
unfoldable pub start? : Grammar → List ℕ → ℕ → Bool
unfolding start_of decides? says? start_outcome
start? g c a =
    let right = says? c a (start_of c a) (start_outcome g a) in
    eqb (start_of c a) 0 || (decides? g a && right)

-- nothing is recorded for the step of slot s over token t, or what the rules give is
unfoldable pub step? : Grammar → List ℕ → ℕ → ℕ → Bool
unfolding step_of decision says? step_outcome kept_in
step? g c s t = let right = says? c (decision c s) (step_of c s t) (step_outcome g t (kept_in c s)) in eqb (step_of c s t) 0 || right

-- all steps of slot s, the one over the end mark included
unfoldable pub steps? : Grammar → List ℕ → ℕ → Bool
unfolding all_from step?
steps? g c s = all_from (step? g c s) 0 (suc g.kinds)

-- EVERY RECORDED START AND STEP IS WHAT THE RULES GIVE
unfoldable pub recorded? : Grammar → List ℕ → Bool
unfolding all_from start? steps? held
recorded? g c = let steps = all_from (steps? g c) 0 (held c) in all_from (start? g c) 0 max_nonterminals && steps

-- ---- the whole
-- of words that are long enough and have begun, with n words of grammar bytes
unfoldable pub right? : Grammar → ℕ → List ℕ → Bool
unfolding laid_out? single? recorded?
right? g n c =
    let recorded = recorded? g c in
    let single = single? c in
    laid_out? g n c && (single && recorded)

-- COHERENT WORDS
unfoldable pub coherent? : Grammar → List ℕ → List ℕ → Bool
unfolding begun? pack_bytes right?
coherent? g bytes c =
    let right = right? g (length (pack_bytes bytes)) c in
    let begun = begun? bytes c in
    leb min_words (length c) && (begun && right)
