-- What the check answers.
use Rattle.std.specs.Prelude.{Result, ⊤}
use Rattle.number.specs.declared.Refusal.{Refusal}

-- a grammar is sound, or it is refused
abbrev pub Verdict : Type 0
Verdict = Result ⊤ Refusal
