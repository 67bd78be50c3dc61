-- How a reading ends.
use Rattle.std.specs.Prelude.{◌≡◌, List, ℕ, ◌≤◌, length, take}
use Rattle.derivation.specs.Machine as machine
use Rattle.machine.specs.declared.ending.Conclusion.{Conclusion}
use Rattle.machine.specs.declared.ending.Conclusion.TheVariants.{Accepted, Stuck, Full}

-- an outcome of the code, with the row that it left, as one of the definitions
abbrev pub outcome_in : Conclusion → List ℕ → machine.Conclusion
outcome_in (Accepted count) row = machine.accepted (take count row)
outcome_in Stuck row = machine.stuck
outcome_in Full row = machine.full

-- so many entries are in the row
abbrev pub Counted : Conclusion → List ℕ → Type 0
Counted o row = (count : ℕ) → o ≡ Accepted count → count ≤ length row
