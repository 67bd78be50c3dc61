-- What the plain reading answers, for any bytes, note, row and working space: the scope's refusals in their order, as one executable definition.
use Rattle.std.specs.Prelude.{Bool, cond, List, [], ◌∷◌, ◌++◌, ℕ, ◌-◌, length, replicate}
use Rattle.base.specs.Rounds.{any_of}
use Rattle.grammar.specs.Limits.{end_place}
use Rattle.grammar.specs.Grammar.{Grammar, alternatives}
use Rattle.derivation.specs.Runs.{marked}
use Rattle.derivation.specs.Cells.{runs?}
use Rattle.derivation.specs.Machine.{lowest, plainly, Conclusion, accepted, stuck, full, reading}
use Rattle.derivation.specs.ReachRounds.{wrong_place}
use Rattle.derivation.specs.Gate.{at_gate, gate}

-- what a reading answers, and the row that it leaves
pub record Answer : Type 0 where
  pub number : ℕ
  pub place : ℕ
  pub count : ℕ
  pub row : List ℕ

abbrev pub answer : ℕ → ℕ → ℕ → List ℕ → Answer
answer n p c r = record { number = n; place = p; count = c; row = r }

-- refused, the row as it was
abbrev pub refuse : ℕ → ℕ → List ℕ → Answer
refuse n p row = answer n p 0 row

-- refused, every row entry 0
abbrev pub clear : ℕ → ℕ → List ℕ → Answer
clear n p row = answer n p 0 (replicate (length row) 0)

-- accepted: the alternatives taken, and zeros behind them
abbrev pub accept : List ℕ → List ℕ → Answer
accept d row = answer 0 0 (length d) (d ++ replicate (length row - length d) 0)

-- the note is a sentence
unfoldable pub sentence? : Grammar → List ℕ → Bool
unfolding any_of runs? alternatives
sentence? g w = any_of (λ f. runs? g (marked w) (f ∷ end_place ∷ []) 0) (alternatives g 0)

-- 10 and 14: where the machine got stuck the note is no sentence; where the row was full, the note alone decides
unfoldable pub on_conclusion : Grammar → List ℕ → List ℕ → Conclusion → Answer
unfolding sentence? wrong_place
on_conclusion g w row (accepted d) = accept d row
on_conclusion g w row stuck = clear 10 (wrong_place g w) row
on_conclusion g w row full = let wrong = clear 10 (wrong_place g w) row in cond (sentence? g w) (clear 14 0 row) wrong

-- the reading of a note by a sound grammar, in enough working space
unfoldable pub read_note : Grammar → List ℕ → List ℕ → Answer
unfolding on_conclusion reading lowest
read_note g w row = on_conclusion g w row (reading g (marked w) (plainly g (marked w)) (length row) tt).outcome

-- the plain reading: what the gate refuses leaves the row as it was
unfoldable pub plain_reading : List ℕ → List ℕ → List ℕ → ℕ → Answer
unfolding gate read_note
plain_reading s w row space = at_gate (λ n p. refuse n p row) (λ g. read_note g w row) (gate s w space)
