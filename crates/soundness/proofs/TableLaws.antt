-- The check answers a verdict exactly if the bytes deserve it.
use mathlib.Core.Path.{◌≡◌, refl, sym, ◌∙◌}
use mathlib.Core.Logic.{◌↔◌}
use mathlib.Core.List.{List}
use Prim.Native.Nat.{ℕ}
use lib.ListN.{length}
use Rattle.std.specs.Prelude.{Err}
use Rattle.number.specs.Forms.{Bytes}
use Rattle.grammar.specs.Decode.{Rules, mark, Parsed, got, refused, decode}
use Rattle.grammar.specs.Grammar.{size_all}
use Rattle.grammar.proofs.EncodeLaws.{decoded-iff, refusal-iff}
use Rattle.soundness.specs.Verdict.{Verdict}
use Rattle.soundness.specs.Check.{check_of}
use Rattle.soundness.specs.Table.{Deserves, faulty, ruled}
use Rattle.soundness.proofs.CheckLaws.{check-refuses, check-iff}

module _ (s : List ℕ) (bytes : Bytes s) where
  pub check-exact : (v : Verdict) → (check_of s ≡ v) ↔ Deserves s v
  check-exact v = (λ e. to (decode s) refl e, λ h. from v h)
    where
      to : (x : Parsed Rules) → decode s ≡ x → check_of s ≡ v → Deserves s v
      to (got r m) d e = let h = (decoded-iff s bytes r m).0 d in ruled r h.0 h.1 ((check-iff s r m d v).0 e)
      to (refused f) d e = let q : Err f ≡ v = sym (check-refuses s f d) ∙ e in rw (← q) (faulty ((refusal-iff s bytes f).0 d))

      from : (v : Verdict) → Deserves s v → check_of s ≡ v
      from v (faulty {f = f} h) = check-refuses s f ((refusal-iff s bytes f).1 h)
      from v (ruled r limits e h) =
          let m = mark (length s) (size_all r.productions) in
          (check-iff s r m ((decoded-iff s bytes r m).1 (limits, e, refl)) v).1 h
