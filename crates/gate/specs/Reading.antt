-- What a reading answers, and the scope's number, place and count of it.
use Rattle.std.proofs.Math.Option as math
use Rattle.std.specs.Prelude.{List, ℕ, Option, Result, Ok, Err}
use Rattle.base.specs.Search.{found}
use Rattle.number.specs.Refusals.{refusal_number, refusal_place}
use Rattle.number.specs.Answers.{told}
use Rattle.derivation.specs.Plain.{Answer, answer}
use Rattle.gate.specs.declared.reading.ReadingRefusal.{ReadingRefusal}
use Rattle.gate.specs.declared.reading.ReadingRefusal.TheVariants.{Grammar, LongNote, UnknownToken, NoSentence, ShortWorkspace, ShortCache}
use Rattle.gate.specs.declared.reading.ReadingRefusal.TheVariants.{ForeignCache, ShortRow}

-- the note was read, with so many entries of the row, or why not
abbrev pub Reading : Type 0
Reading = Result ℕ ReadingRefusal

-- the refusal's number
abbrev pub refused_number : ReadingRefusal → ℕ
refused_number (Grammar r) = refusal_number r
refused_number LongNote = 8
refused_number (UnknownToken at) = 9
refused_number (NoSentence at) = 10
refused_number ShortWorkspace = 11
refused_number ShortCache = 12
refused_number ForeignCache = 13
refused_number ShortRow = 14

-- its place, 0 where none is named
abbrev pub refused_place : ReadingRefusal → ℕ
refused_place (Grammar r) = refusal_place r
refused_place LongNote = 0
refused_place (UnknownToken at) = at
refused_place (NoSentence at) = at
refused_place ShortWorkspace = 0
refused_place ShortCache = 0
refused_place ForeignCache = 0
refused_place ShortRow = 0

-- 0 where the note was read, else the refusal's number
abbrev pub reading_number : Reading → ℕ
reading_number r = told refused_number r

-- 0 where none is named
abbrev pub reading_place : Reading → ℕ
reading_place r = told refused_place r

-- the entries of the row, 0 where refused
abbrev pub reading_count : Reading → ℕ
reading_count (Ok count) = count
reading_count (Err e) = 0

-- a reading and the row that it left, as the definitions answer
abbrev pub answered : Reading → List ℕ → Answer
answered r row = answer (reading_number r) (reading_place r) (reading_count r) row

-- what the search for an unknown token found
abbrev pub tokens_of : math.Option ℕ → Option ℕ
tokens_of o = found o
