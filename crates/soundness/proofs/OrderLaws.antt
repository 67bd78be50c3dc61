-- What the order of 6 and 7 decides. Once 6 was asked first. The verdict on bytes is still the one of then, except on rules that have both faults: those were
-- refused with 6, and are refused with 7.
use mathlib.Core.Path.{◌≡◌, refl}
use mathlib.Core.Option.{Option}
use mathlib.Core.List.{List}
use Prim.Native.Nat.{ℕ}
use Rattle.std.specs.Prelude.{Err}
use Rattle.base.specs.Search.{LowestIs, this, nothing}
use Rattle.number.specs.declared.Refusal.{Refusal}
use Rattle.number.specs.declared.Refusal.TheVariants.{Unproductive, LeftRecursive as Recursive}
use Rattle.grammar.specs.Decode.{Rules, Mark, Parsed, got, refused, decode}
use Rattle.grammar.specs.Grammar.{compile}
use Rattle.grammar.specs.Derivation.{of_rules}
use Rattle.reader.proofs.ReadLaws.{decode-limited}
use Rattle.closures.specs.Textbook.{LeftRecursive}
use Rattle.soundness.specs.Verdict.{Verdict}
use Rattle.soundness.specs.Check.{lowest_unproductive, lowest_left_recursive, refuse_at, unproductive_of, left_recursive_of, or_else, judge_of}
use Rattle.soundness.specs.Check.{on_decoded, check_of}
use Rattle.soundness.specs.Verdicts.{Barren, Lowest}
use Rattle.soundness.proofs.CheckLaws.{barren-lowest, recursive-lowest}

-- the verdict of then, 6 before 7: it stands here for this law alone
abbrev on_decoded_before : Parsed Rules → Verdict
on_decoded_before (got r m) = let second = left_recursive_of (compile r) in or_else (unproductive_of (compile r)) second
on_decoded_before (refused f) = Err f

abbrev pub check_before : List ℕ → Verdict
check_before s = on_decoded_before (decode s)

-- the verdict on bytes before, and the verdict now
pub data Turned (s : List ℕ) : Verdict → Verdict → Type 0 where
  -- bytes that say no rules: the same of 1 to 5
  unsaid : (f : Refusal) → decode s ≡ refused f → Turned s (Err f) (Err f)
  -- rules that do not have both faults: the same
  kept : {v : Verdict} (r : Rules) (m : Mark) → decode s ≡ got r m → ¬ (((a : ℕ) × Barren r a) × ((a : ℕ) × LeftRecursive (of_rules r) a)) → Turned s v v
  -- rules that have both: it was 6, and is 7 with the lowest left recursive nonterminal
  turned : (r : Rules) (m : Mark) → decode s ≡ got r m → (a c : ℕ) → Lowest (Barren r) a → Lowest (LeftRecursive (of_rules r)) c
      → Turned s (Err (Unproductive a)) (Err (Recursive c))

pub order-turned : (s : List ℕ) → Turned s (check_before s) (check_of s)
unfolding check_of judge_of unproductive_of left_recursive_of
order-turned s = go (decode s) refl
  where
    judged : (r : Rules) (m : Mark) → decode s ≡ got r m → (o p : Option ℕ) → LowestIs (Barren r) o → LowestIs (LeftRecursive (of_rules r)) p
        → Turned s (or_else (refuse_at Unproductive o) (refuse_at Recursive p)) (or_else (refuse_at Recursive p) (refuse_at Unproductive o))
    judged r m e o p (this a x h) (this c y k) = turned r m e a c (x, h) (y, k)
    judged r m e o p (this a x h) (nothing k) = kept r m e (λ b. k b.1.0 b.1.1)
    judged r m e o p (nothing h) (this c y k) = kept r m e (λ b. h b.0.0 b.0.1)
    judged r m e o p (nothing h) (nothing k) = kept r m e (λ b. h b.0.0 b.0.1)

    go : (x : Parsed Rules) → decode s ≡ x → Turned s (on_decoded_before x) (on_decoded x)
    go (refused f) e = unsaid f e
    go (got r m) e =
        let limits = decode-limited s r m e in
        judged r m e (lowest_unproductive (compile r)) (lowest_left_recursive (compile r)) (barren-lowest r limits) (recursive-lowest r limits)
