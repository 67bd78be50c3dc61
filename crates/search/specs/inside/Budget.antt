-- What is paid from a budget.
use Rattle.std.specs.Prelude.{◌≡◌, ℕ, ◌+◌, ◌<◌, Result, Ok, Err}
use Rattle.search.specs.declared.meter.Meter.{Meter}
use Rattle.search.specs.declared.meter.Exhausted.{Exhausted}

-- so much was taken, or less is left and nothing was taken
abbrev pub Paid : ℕ → Meter → Meter → Result (Unit {0}) Exhausted → Type 0
Paid units m after (Ok _) = (after.left + units ≡ m.left) × (after.high ≡ m.high)
Paid units m after (Err _) = (m.left < units) × (after ≡ m)
