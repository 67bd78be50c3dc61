-- DEMAND 2: "Given a sound grammar, a note of at most 128 known tokens and enough working space, the plain reading accepts exactly if the grammar derives the
-- note and the row has space. Count and row then give the leftmost derivation that takes, at each step, the lowest alternative from which the whole rest can
-- still be derived. A note the grammar doesn't derive is refused at the first place where no sentence allows that token, or that end, after the tokens before
-- it."
--
-- What the bytes say is `decode`; everything else is said of the rules in the textbook's words.
use Rattle.std.specs.Prelude.{◌≡◌, ◌↔◌, List, ℕ, ◌≤◌, length}
use Rattle.number.specs.declared.Refusal.{Refusal}
use Rattle.number.specs.Refusals.{refusal_number, refusal_place}
use Rattle.grammar.specs.Decode.{Rules, Mark, got, refused, decode}
use Rattle.grammar.specs.Grammar.{size_all}
use Rattle.grammar.specs.Derivation.{of_rules}
use Rattle.soundness.specs.Verdict.{Verdict}
use Rattle.soundness.specs.Check.{verdict_number, verdict_place, CheckDid}
use Rattle.soundness.specs.Verdicts.{IsSound, Means}
use Rattle.derivation.specs.Space.{max_tokens, space_words}
use Rattle.derivation.specs.Plain.{answer}
use Rattle.derivation.specs.Demand2.{Known, RightAnswer}
use Rattle.plain.specs.Contract.{PlainDid}

-- ---- which grammars are sound
-- the number and the place that rules deserve: those of the verdict that they mean
pub data CheckSays (r : Rules) : ℕ → ℕ → Type 0 where
  says : (v : Verdict) → Means r v → CheckSays r (verdict_number v) (verdict_place v)

-- ---- DEMAND 2
pub record Demand2 : Type 0 where
  -- bytes that say no rules are refused where they come to their first fault: 1 to 5
  pub unsaid : (bytes : List ℕ) (f : Refusal) → decode bytes ≡ refused f → (number place : ℕ) → CheckDid bytes number place
      → (number ≡ refusal_number f) × (place ≡ refusal_place f)
  -- of bytes that say rules a check answers just what the rules deserve
  pub check : (bytes : List ℕ) (r : Rules) (m : Mark) → decode bytes ≡ got r m
      → (number place : ℕ) → CheckDid bytes number place ↔ CheckSays r number place
  -- a sound grammar, a note of at most 128 known tokens and enough working space: the plain reading's number, place, count and row are right
  pub plain : (bytes : List ℕ) (r : Rules) (m : Mark) → decode bytes ≡ got r m → IsSound r → (note row : List ℕ) (space : ℕ)
      → length note ≤ max_tokens → Known r.kinds note → space_words (size_all r.productions) (length note) ≤ space
      → (number place count : ℕ) (row' : List ℕ) → PlainDid bytes note row space number place count row'
      → RightAnswer (of_rules r) note row (answer number place count row')
