-- DEMAND 2 of the calls: their contracts, and what the definitions in them mean.
use mathlib.Core.Path.{◌≡◌, sym, subst, ap, ◌∙◌}
use mathlib.Core.Logic.{◌↔◌}
use mathlib.Core.List.{List}
use Prim.Native.Nat.{ℕ}
use Rattle.number.specs.declared.Refusal.{Refusal}
use Rattle.number.specs.Refusals.{refusal_number, refusal_place}
use Rattle.grammar.specs.Decode.{Rules, Mark, got, refused, decode}
use Rattle.grammar.specs.Derivation.{of_rules}
use Rattle.soundness.specs.Check.{check_of, verdict_number, verdict_place, CheckDid}
use Rattle.soundness.proofs.CheckLaws.{check-refuses, check-means, check-iff}
use Rattle.derivation.specs.Plain.{Answer}
use Rattle.derivation.specs.Demand2.{RightAnswer}
use Rattle.derivation.proofs.Demand2Laws.{plain-right}
use Rattle.demands.specs.Demand2.{CheckSays, says, Demand2}

unsaid : (s : List ℕ) (f : Refusal) → decode s ≡ refused f → (n p : ℕ) → CheckDid s n p → (n ≡ refusal_number f) × (p ≡ refusal_place f)
unsaid s f e n p (x, y) = let q = check-refuses s f e in (x ∙ ap verdict_number q, y ∙ ap verdict_place q)

checked : (s : List ℕ) (r : Rules) (m : Mark) → decode s ≡ got r m → (n p : ℕ) → CheckDid s n p ↔ CheckSays r n p
checked s r m e n p = (to, from)
  where
    to : CheckDid s n p → CheckSays r n p
    to (x, y) = rw (x, y) (says (check_of s) (check-means s r m e))

    from : {n p : ℕ} → CheckSays r n p → CheckDid s n p
    from (says v h) = let q = sym ((check-iff s r m e v).1 h) in (ap verdict_number q, ap verdict_place q)

pub demand2 : Demand2
demand2 = record {
  unsaid = unsaid;
  check = checked;
  plain = λ s r m e h w row space few known room n p k row' d.
      subst (λ (x : Answer). RightAnswer (of_rules r) w row x) (sym d) (plain-right s r m e h w row space few known room);
}
