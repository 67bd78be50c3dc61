-- What the gate's code answers, beside the gate of the definitions.
use Rattle.std.specs.Prelude.{◌≡◌, List, ℕ, ◌≤◌, length, Result, Ok, Err, ⊤}
use Rattle.grammar.specs.Grammar.{Grammar}
use Rattle.grammar.specs.inside.Tables.{grammar_in}
use Rattle.derivation.specs.Space.{max_tokens, space_words}
use Rattle.derivation.specs.inside.Ready.{Ready}
use Rattle.derivation.specs.Demand2.{Known}
use Rattle.derivation.specs.Gate as definition
use Rattle.gate.specs.Reading.{refused_number, refused_place}
use Rattle.gate.specs.declared.reading.ReadingRefusal.{ReadingRefusal}

-- what the gate answers: passed, or why not
abbrev pub Gate : Type 0
Gate = Result ⊤ ReadingRefusal

-- an answer of the code, with the grammar in the tables, as one of the definitions
abbrev pub gate_in : Gate → Grammar → definition.Gate
gate_in (Ok tt) g = definition.passed g
gate_in (Err e) g = definition.shut (refused_number e) (refused_place e)

-- what every reading rests on: tables of a sound grammar, at most 128 tokens, all of them known, and enough words of working space
pub record Admitted (t w : List ℕ) (space : ℕ) : Type 0 where
  pub ready : Ready t
  pub short : length w ≤ max_tokens
  pub tokens : Known (grammar_in t).kinds w
  pub room : space_words (grammar_in t).size (length w) ≤ space

-- r is what the gate says
pub record Answers (says : definition.Gate) (t w : List ℕ) (space : ℕ) (r : Gate) : Type 0 where
  pub is : gate_in r (grammar_in t) ≡ says
  pub admits : r ≡ Ok tt → Admitted t w space

abbrev pub NoteGated : List ℕ → List ℕ → ℕ → Gate → Type 0
NoteGated t w space r = Answers (definition.note_gate (grammar_in t) w space) t w space r

abbrev pub Gated : List ℕ → List ℕ → ℕ → List ℕ → Gate → Type 0
Gated s w space t r = Answers (definition.gate s w space) t w space r
