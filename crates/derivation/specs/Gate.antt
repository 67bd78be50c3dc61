-- The gate before every reading: refusals 1 to 9 and 11, in the scope's order, from the grammar's bytes, the note and the words of working space.
use Rattle.std.specs.Prelude.{Bool, true, false, ◌&&◌, not, List, ℕ, leb, ltb, length, get_or, Ok, Err}
use Rattle.std.proofs.Math.Option.{Option, none, some}
use Rattle.base.specs.Search.{lowest_from}
use Rattle.number.specs.declared.Refusal.{Refusal}
use Rattle.number.specs.Refusals.{refusal_number, refusal_place}
use Rattle.grammar.specs.Decode.{Rules, Parsed, got, refused, decode}
use Rattle.grammar.specs.Grammar.{Grammar, compile}
use Rattle.soundness.specs.Verdict.{Verdict}
use Rattle.soundness.specs.Check.{judge_of}
use Rattle.derivation.specs.Space.{max_tokens, space_words}

-- refused with a number and a place, or passed: go on with this grammar
pub data Gate : Type 0 where
  shut : (number place : ℕ) → Gate
  passed : Grammar → Gate

-- what comes of a gate: what is done where it is shut, and what where it is passed
abbrev pub at_gate : {A : Type 0} → (ℕ → ℕ → A) → (Grammar → A) → Gate → A
at_gate refuse on (shut n p) = refuse n p
at_gate refuse on (passed g) = on g

abbrev pub shut_by : Refusal → Gate
shut_by r = shut (refusal_number r) (refusal_place r)

-- ---- 1 to 7
-- 7 and 6
abbrev pub on_verdict : Grammar → Verdict → Gate
on_verdict g (Ok tt) = passed g
on_verdict g (Err r) = shut_by r

-- 1 to 5, and then 7 and 6
abbrev pub on_rules : Parsed Rules → Gate
on_rules (refused r) = shut_by r
on_rules (got r m) = on_verdict (compile r) (judge_of (compile r))

-- sound bytes: the gate of every call
unfoldable pub sound_gate : List ℕ → Gate
unfolding decode compile judge_of
sound_gate s = on_rules (decode s)

-- ---- 8, 9 and 11
-- a token of the grammar: from 1 to the highest kind
abbrev pub known? : ℕ → ℕ → Bool
known? kinds t = leb 1 t && leb t kinds

-- 9: the first token that is none
unfoldable pub first_unknown : ℕ → List ℕ → Option ℕ
unfolding lowest_from
first_unknown kinds w = lowest_from (λ i. not (known? kinds (get_or w i 0))) 0 (length w)

-- a note for a sound grammar, and words of working space
unfoldable pub note_gate : Grammar → List ℕ → ℕ → Gate
unfolding first_unknown
note_gate g w space =
    elim (ltb max_tokens (length w)) [
      | true ↦ shut 8 0
      | false ↦ elim (first_unknown g.kinds w)
          [ some i ↦ shut 9 i | none ↦ elim (ltb space (space_words g.size (length w))) [ true ↦ shut 11 0 | false ↦ passed g ] ]
    ]

-- ---- the whole gate of a reading
unfoldable pub gate : List ℕ → List ℕ → ℕ → Gate
unfolding sound_gate note_gate
gate s w space = at_gate shut (λ g. note_gate g w space) (sound_gate s)
