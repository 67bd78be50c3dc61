-- The chooser of the adaptive reading: a nonterminal of one production is taken at once; what is predicted of another is taken; and where lookahead does
-- not tell, the lowest alternative is taken with which the rest of the note can be read.
use Rattle.std.specs.Prelude.{true, false, List, ℕ, ltb, length, drop, Some, None}
use Rattle.std.proofs.Math.Option.{some}
use Rattle.grammar.specs.Grammar.{Grammar, alternatives}
use Rattle.derivation.specs.Machine.{Choice, choice, Chooser, lowest}
use Rattle.cache.specs.Predictor.{Predicted, Predicts}
use Rattle.cache.specs.Predict.{predict}

-- what was predicted of nonterminal a over the stack S that stays open, at position i of the marked note w
unfoldable pub settle : {C : Type 0} → Grammar → List ℕ → List ℕ → ℕ → ℕ → Predicted C → Choice C
unfolding lowest
settle g w S a i p = elim p.forecast [ Some b ↦ choice (some b) p.state | None ↦ choice (lowest g w S a i) p.state ]

-- a chooser by any predictor, which is asked for decisions alone and over what is left of the note
unfoldable pub guided : {C : Type 0} → Grammar → List ℕ → Predicts C → Chooser C
unfolding settle alternatives
guided g w predict c S a i =
    elim (ltb 1 (length (alternatives g a))) [ true ↦ settle g w S a i (predict c a (drop i w)) | false ↦ choice (some 1) c ]

-- the quick reading's: by the lookahead cache, whose words it carries
abbrev pub adaptively : Grammar → List ℕ → Chooser (List ℕ)
adaptively g w = guided g w (predict g)
