-- The scope's starred cases, of the check and of the plain reading, as one table.
use Rattle.std.specs.Prelude.{◌≡◌, List, [], ◌∷◌, ℕ, length}
use Rattle.std.proofs.Math.Option.{Option, none, some}
use Rattle.grammar.specs.declared.Symbol.TheVariants.{Token, Nonterminal}
use Rattle.grammar.specs.Decode.{Rules, Parsed, got, refused, decode}
use Rattle.soundness.specs.Check.{check_of, verdict_number, verdict_place}
use Rattle.derivation.specs.Space.{space_words}
use Rattle.derivation.specs.Plain.{Answer, answer, plain_reading}

-- the bytes of grammar G1
abbrev pub g1 : List ℕ
g1 = 0x02 ∷ 0x02 ∷ 0x02 ∷ 0x01 ∷ 0x03 ∷ 0x02 ∷ 0x03 ∷ 0x04 ∷ 0x02 ∷ 0x01 ∷ 0x02 ∷ 0x02 ∷ 0x02 ∷ 0x04 ∷ []

-- its rules: nonterminal 0 is [1] or [1, less], nonterminal 1 is [grade] or [grade, less]
abbrev pub g1_rules : Rules
g1_rules = record {
  kinds = 2;
  productions =
      ((Nonterminal 1 ∷ []) ∷ (Nonterminal 1 ∷ Token 2 ∷ []) ∷ [])
      ∷ ((Token 1 ∷ []) ∷ (Token 1 ∷ Token 2 ∷ []) ∷ [])
      ∷ [];
}

-- what is lent beside the bytes of a grammar that is to be read by: a note and a row
pub record NoteRow : Type 0 where
  pub note : List ℕ
  pub row : List ℕ

-- a case: bytes, a note and a row unless the bytes are checked alone, and what is answered
pub record Case : Type 0 where
  pub bytes : List ℕ
  pub lent : Option NoteRow
  pub gives : Answer

-- the working space that a note of n tokens asks for, by bytes that say rules
abbrev pub least_space : ℕ → Parsed Rules → ℕ
least_space n (got r m) = space_words m.places n
least_space n (refused f) = 0

-- what is answered: the check's number and place, or what the plain reading answers and leaves in just the working space that is asked for
abbrev pub response_to : List ℕ → Option NoteRow → Answer
response_to s none = answer (verdict_number (check_of s)) (verdict_place (check_of s)) 0 []
response_to s (some l) = plain_reading s l.note l.row (least_space (length l.note) (decode s))

-- a case holds
abbrev pub Holds : Case → Type 0
Holds c = response_to c.bytes c.lent ≡ c.gives

-- bytes that are checked, and the number and place
abbrev checked : List ℕ → ℕ → ℕ → Case
checked s n p = record { bytes = s; lent = none; gives = answer n p 0 [] }

-- a note that is read by G1 over a row, and number, place, count and row
abbrev read_by : List ℕ → List ℕ → ℕ → ℕ → ℕ → List ℕ → Case
read_by w row n p c r = record { bytes = g1; lent = some (record { note = w; row = row }); gives = answer n p c r }

abbrev pub cases : List Case
cases =
    read_by (1 ∷ []) (7 ∷ 7 ∷ 7 ∷ []) 0 0 2 (1 ∷ 1 ∷ 0 ∷ [])
    ∷ read_by (1 ∷ 2 ∷ []) (7 ∷ 7 ∷ 7 ∷ []) 0 0 2 (1 ∷ 2 ∷ 0 ∷ [])
    ∷ read_by (1 ∷ 2 ∷ 2 ∷ []) (7 ∷ 7 ∷ 7 ∷ []) 0 0 2 (2 ∷ 2 ∷ 0 ∷ [])
    ∷ read_by (1 ∷ 2 ∷ 2 ∷ 2 ∷ []) (7 ∷ 7 ∷ 7 ∷ []) 10 3 0 (0 ∷ 0 ∷ 0 ∷ [])
    ∷ read_by [] (7 ∷ 7 ∷ 7 ∷ []) 10 0 0 (0 ∷ 0 ∷ 0 ∷ [])
    ∷ read_by (1 ∷ 1 ∷ []) (7 ∷ 7 ∷ 7 ∷ []) 10 1 0 (0 ∷ 0 ∷ 0 ∷ [])
    ∷ read_by (1 ∷ 2 ∷ []) (7 ∷ []) 14 0 0 (0 ∷ [])
    ∷ checked [] 1 0
    ∷ checked (0x81 ∷ 0x00 ∷ []) 2 0
    ∷ checked (0x01 ∷ 0x01 ∷ 0x01 ∷ 0x02 ∷ 0x02 ∷ 0x01 ∷ []) 6 0
    ∷ checked (0x01 ∷ 0x01 ∷ 0x01 ∷ 0x01 ∷ 0x01 ∷ []) 7 0
    ∷ checked (0x01 ∷ 0x02 ∷ 0x02 ∷ 0x03 ∷ 0x03 ∷ 0x01 ∷ 0x02 ∷ 0x01 ∷ 0x02 ∷ 0x01 ∷ 0x00 ∷ []) 7 0
    ∷ []
