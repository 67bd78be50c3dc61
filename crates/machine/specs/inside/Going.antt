-- What the loop of a reading keeps, whatever chooses and whatever state it carries; and how the loop stops.
use Rattle.std.specs.Prelude.{◌≡◌, List, ℕ, ◌+◌, ◌-◌, ◌*◌, ◌≤◌, length, take}
use Rattle.grammar.specs.inside.Tables.{grammar_in}
use Rattle.derivation.specs.Runs.{marked}
use Rattle.derivation.specs.Machine.{Chooser, Ended, ended, beyond, run_call}
use Rattle.machine.specs.inside.Ending.{outcome_in, Counted}
use Rattle.machine.specs.declared.ending.Conclusion.{Conclusion}

-- steps that are enough from where a nonterminal waits over the stack S, after its choice: two for each alternative that there is room for, one for each
-- token left and one for each open place. Each step takes one of them.
abbrev pub call_steps : List ℕ → ℕ → List ℕ → ℕ → ℕ
call_steps w room S i = 2 * room + (length w - i) + length S

-- nonterminal a waits over the stack S at position i, and `count` entries of the row are written: what is left ends as the whole reading does
pub record Going {C : Type 0} (choose : Chooser C) (t w : List ℕ) (end : Ended C) (row : List ℕ) (count : ℕ) (S : List ℕ) (a i : ℕ) (c : C) : Type 0
  where
    pub fits : count ≤ length row
    pub rest : beyond (take count row) (run_call (grammar_in t) (marked w) choose (call_steps (marked w) (length row - count) S i) S a i (length row - count) c)
        ≡ end

-- the loop stopped so, with this state, row and working space: that is the end of the whole reading
pub record Ran {C : Type 0} (end : Ended C) (row ws : List ℕ) (r : Conclusion) (c : C) (row' ws' : List ℕ) : Type 0 where
  pub stops : ended (outcome_in r row') c ≡ end
  pub within : Counted r row'
  pub row_kept : length row' ≡ length row
  pub space-kept : length ws' ≡ length ws
