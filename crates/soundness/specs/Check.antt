-- The check: refusals 1 to 5 as the bytes come, then 7, then 6; and the scope's number and place of a verdict.
use Rattle.std.specs.Prelude.{◌≡◌, not, List, ℕ, length, Ok, Err}
use Rattle.std.proofs.Math.Option.{Option, none, some}
use Rattle.base.specs.Search.{lowest_from}
use Rattle.number.specs.declared.Refusal.{Refusal}
use Rattle.number.specs.declared.Refusal.TheVariants.{Unproductive, LeftRecursive}
use Rattle.number.specs.Refusals.{refusal_number, refusal_place}
use Rattle.number.specs.Answers.{told}
use Rattle.grammar.specs.Decode.{Rules, Parsed, got, refused, decode}
use Rattle.grammar.specs.Grammar.{Grammar, compile}
use Rattle.closures.specs.Closures.{deriving?, productive?}
use Rattle.corners.specs.Corners.{left_recursive?}
use Rattle.soundness.specs.Verdict.{Verdict}

-- the lowest of the grammar's nonterminals that derives no row of tokens, and the lowest that leads back to itself
unfoldable pub lowest_unproductive : Grammar → Option ℕ
unfolding lowest_from deriving?
lowest_unproductive g = lowest_from (λ a. not (productive? g a)) 0 (length g.starts)

unfoldable pub lowest_left_recursive : Grammar → Option ℕ
unfolding lowest_from left_recursive?
lowest_left_recursive g = lowest_from (left_recursive? g) 0 (length g.starts)

-- a nonterminal that was found is refused
abbrev pub refuse_at : (ℕ → Refusal) → Option ℕ → Verdict
refuse_at refusal none = Ok tt
refuse_at refusal (some a) = Err (refusal a)

-- 6: the lowest nonterminal that derives no row of tokens
unfoldable pub unproductive_of : Grammar → Verdict
unfolding lowest_unproductive
unproductive_of g = refuse_at Unproductive (lowest_unproductive g)

-- 7: the lowest left recursive nonterminal
unfoldable pub left_recursive_of : Grammar → Verdict
unfolding lowest_left_recursive
left_recursive_of g = refuse_at LeftRecursive (lowest_left_recursive g)

-- the first of two verdicts that refuses
abbrev pub or_else : Verdict → Verdict → Verdict
or_else (Ok tt) v = v
or_else (Err r) v = Err r

-- 7 before 6
unfoldable pub judge_of : Grammar → Verdict
unfolding unproductive_of left_recursive_of
judge_of g = let second = unproductive_of g in or_else (left_recursive_of g) second

abbrev pub on_decoded : Parsed Rules → Verdict
on_decoded (got r m) = judge_of (compile r)
on_decoded (refused r) = Err r

-- the whole check
unfoldable pub check_of : List ℕ → Verdict
unfolding decode judge_of compile
check_of s = on_decoded (decode s)

-- the scope's number and place: 0 and 0 for a sound grammar
abbrev pub verdict_number : Verdict → ℕ
verdict_number v = told refusal_number v

abbrev pub verdict_place : Verdict → ℕ
verdict_place v = told refusal_place v

-- THE CONTRACT OF `check`: a check of these bytes answered this number and this place
abbrev pub CheckDid : List ℕ → ℕ → ℕ → Type 0
CheckDid bytes number place = (number ≡ verdict_number (check_of bytes)) × (place ≡ verdict_place (check_of bytes))
