-- The check's whole table of refusals, 1 to 7, told of bytes and rules alone: no reader, no places, no rounds.
use Rattle.std.specs.Prelude.{◌≡◌, List, ℕ, Err}
use Rattle.number.specs.declared.Refusal.{Refusal}
use Rattle.grammar.specs.Decode.{Rules}
use Rattle.grammar.specs.Grammar.{Limited}
use Rattle.grammar.specs.Encode.{encode}
use Rattle.grammar.specs.Faults.{Faulty}
use Rattle.soundness.specs.Verdict.{Verdict}
use Rattle.soundness.specs.Verdicts.{Means}

-- bytes deserve a verdict: they deserve one of 1 to 5, or they are the bytes of rules within the limits, and it is what those rules mean
pub data Deserves (s : List ℕ) : Verdict → Type 0 where
  faulty : {f : Refusal} → Faulty s f → Deserves s (Err f)
  ruled : {v : Verdict} (r : Rules) → Limited r → s ≡ encode r → Means r v → Deserves s v
