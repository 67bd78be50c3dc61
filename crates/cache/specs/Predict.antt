-- A prediction of the lookahead cache: from the start of a decision over the tokens that are left, as long as there is a state to step from.
use Rattle.std.specs.Prelude.{◌&&◌, cond, List, [], ◌∷◌, ℕ, ◌-◌, ltb, leb, length, Some, None}
use Rattle.grammar.specs.Grammar.{Grammar, alternatives}
use Rattle.words.specs.Layout.{slots, full_word, state_word}
use Rattle.cache.specs.Predictor.{Predicted, predicted}
use Rattle.cache.specs.Recording.{Learned, ask_start, ask_step}

-- what a word says: one of n alternatives, FULL, or one of so many slots. Words that no recording leaves say FULL.
pub data Meaning : Type 0 where
  chosen : ℕ → Meaning
  undecided : Meaning
  at : ℕ → Meaning

unfoldable pub meaning : ℕ → ℕ → ℕ → Meaning
meaning n k w =
    let state = cond (ltb (w - state_word 0) k) (at (w - state_word 0)) undecided in
    let alternative = cond (ltb 0 w && leb w n) (chosen w) undecided in
    cond (ltb full_word w) state alternative

-- what was said last of decision a
unfoldable pub meaning_of : Grammar → ℕ → Learned → Meaning
unfolding meaning slots alternatives
meaning_of g a l = meaning (length (alternatives g a)) (slots (length l.words)) l.said

-- from what was said last, over these tokens, the end mark included: what is predicted, and the cache after it
unfoldable pub predict_from : Grammar → ℕ → List ℕ → Learned → Predicted (List ℕ)
unfolding meaning_of ask_step
predict_from g a [] l =
    elim (meaning_of g a l) [ chosen b ↦ predicted (Some b) l.words | undecided ↦ predicted None l.words | at s ↦ predicted None l.words ]
predict_from g a (t ∷ ts) l =
    elim (meaning_of g a l) [
      | chosen b ↦ predicted (Some b) l.words
      | undecided ↦ predicted None l.words
      | at s ↦ predict_from g a ts (ask_step g l.words a s t)
    ]

unfoldable pub predict : Grammar → List ℕ → ℕ → List ℕ → Predicted (List ℕ)
unfolding predict_from ask_start
predict g c a ts = predict_from g a ts (ask_start g c a)
