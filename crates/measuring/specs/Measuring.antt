-- What measuring a grammar answers: the check's refusal, or the three sizes of a sound grammar; and both as numbers.
use Rattle.std.specs.Prelude.{List, ℕ, length, Result, Ok, Err}
use Rattle.number.specs.declared.Refusal.{Refusal}
use Rattle.number.specs.Refusals.{refusal_number, refusal_place}
use Rattle.number.specs.Answers.{told}
use Rattle.grammar.specs.Decode.{Rules, Parsed, got, refused, decode}
use Rattle.grammar.specs.Grammar.{size_all}
use Rattle.soundness.specs.Verdict.{Verdict}
use Rattle.soundness.specs.Check.{check_of}
use Rattle.measuring.specs.declared.measuring.Sizes.{Sizes}

-- what measuring answers: the sizes of a sound grammar, or why it is refused
abbrev pub Measure : Type 0
Measure = Result Sizes Refusal

-- the highest kind T, the number N of nonterminals and the number P of places of rules
unfoldable pub sizes_of : Rules → Sizes
unfolding size_all
sizes_of r = record { kinds = r.kinds; nonterminals = length r.productions; places = size_all r.productions }

-- rules under the check's verdict: measured where they are sound
abbrev pub measured : Verdict → Rules → Measure
measured (Ok tt) r = Ok (sizes_of r)
measured (Err f) r = Err f

-- bytes that say rules, or are refused, under the check's verdict
abbrev pub measured_as : Verdict → Parsed Rules → Measure
measured_as v (got r m) = measured v r
measured_as v (refused f) = Err f

-- the whole measure of any bytes
unfoldable pub measure_of : List ℕ → Measure
unfolding decode check_of sizes_of
measure_of s = measured_as (check_of s) (decode s)

-- the check's number and place: 0 and 0 for a sound grammar
abbrev pub measure_number : Measure → ℕ
measure_number m = told refusal_number m

abbrev pub measure_place : Measure → ℕ
measure_place m = told refusal_place m

-- T, N and P, each 0 where the grammar is refused
abbrev pub measure_kinds : Measure → ℕ
measure_kinds (Ok s) = s.kinds
measure_kinds (Err f) = 0

abbrev pub measure_nonterminals : Measure → ℕ
measure_nonterminals (Ok s) = s.nonterminals
measure_nonterminals (Err f) = 0

abbrev pub measure_places : Measure → ℕ
measure_places (Ok s) = s.places
measure_places (Err f) = 0

-- a measure as five numbers
pub record Figures : Type 0 where
  pub number : ℕ
  pub place : ℕ
  pub kinds : ℕ
  pub nonterminals : ℕ
  pub places : ℕ

abbrev pub figures : ℕ → ℕ → ℕ → ℕ → ℕ → Figures
figures n p t k q = record { number = n; place = p; kinds = t; nonterminals = k; places = q }

abbrev pub figures_of : Measure → Figures
figures_of m = figures (measure_number m) (measure_place m) (measure_kinds m) (measure_nonterminals m) (measure_places m)
