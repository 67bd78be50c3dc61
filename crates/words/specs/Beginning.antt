-- What beginning answers, and the scope's number and place of it.
use Rattle.std.specs.Prelude.{List, ℕ, Result, ⊤}
use Rattle.number.specs.Refusals.{refusal_number, refusal_place}
use Rattle.number.specs.Answers.{told}
use Rattle.words.specs.Begin.{Begun, begun}
use Rattle.words.specs.declared.beginning.BeginningRefusal.{BeginningRefusal}
use Rattle.words.specs.declared.beginning.BeginningRefusal.TheVariants.{Grammar, ShortCache}

-- the cache has begun, or why not
abbrev pub Beginning : Type 0
Beginning = Result ⊤ BeginningRefusal

-- the refusal's number
abbrev pub refused_number : BeginningRefusal → ℕ
refused_number (Grammar r) = refusal_number r
refused_number ShortCache = 12

-- its place, 0 where none is named
abbrev pub refused_place : BeginningRefusal → ℕ
refused_place (Grammar r) = refusal_place r
refused_place ShortCache = 0

-- 0 where the cache has begun, else the refusal's number
abbrev pub beginning_number : Beginning → ℕ
beginning_number b = told refused_number b

-- 0 where none is named
abbrev pub beginning_place : Beginning → ℕ
beginning_place b = told refused_place b

-- a beginning and the words that it left, as the definitions answer
abbrev pub begun_by : Beginning → List ℕ → Begun
begun_by b c = begun (beginning_number b) (beginning_place b) c
