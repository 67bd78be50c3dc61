-- Following recorded outcomes: what the call may rely on, and what its word says.
use Rattle.std.specs.Prelude.{◌≡◌, List, [], ℕ, ◌≤◌, ◌<◌, length, get_or}
use Rattle.grammar.specs.Limits.{max_kinds, max_nonterminals, max_productions}
use Rattle.grammar.specs.Grammar.{Grammar, alternatives}
use Rattle.words.specs.Layout.{min_words, full_word}
use Rattle.cache.specs.Predictor.{Forecast, predicted}
use Rattle.cache.specs.Recording.{learned}
use Rattle.cache.specs.Predict.{predict_from, predict}

-- recorded outcomes of decision a can be followed from position i of the note w on
pub record Followable (w c : List ℕ) (a i : ℕ) : Type 0 where
  pub long : min_words ≤ length c
  pub names : a < max_nonterminals
  pub within : i ≤ length w
  pub kinds : (j : ℕ) → j < length w → get_or w j 0 ≤ max_kinds

-- word w, which tells no state, says this forecast: over whatever words, and with no token left
pub record Says (g : Grammar) (a w : ℕ) (x : Forecast) : Type 0 where
  pub is : (c : List ℕ) → predicted x c ≡ predict_from g a [] (learned w c)

-- word w, which tells no state, is 0, or it says what is predicted of decision a over these tokens: of whatever grammar within the limits, and nothing is
-- learned
pub record Recorded (c : List ℕ) (a : ℕ) (ts : List ℕ) (w : ℕ) : Type 0 where
  pub low : w ≤ full_word
  pub predicts : (g : Grammar) → length (alternatives g a) ≤ max_productions → (w ≡ 0 → ⊥) → predict_from g a [] (learned w c) ≡ predict g c a ts
