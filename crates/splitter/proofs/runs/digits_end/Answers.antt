-- The goals of `splitter::runs::digits_end` that are not found.
use mathlib.Core.Path.{refl, ap, ◌∙◌}
use mathlib.Core.List.{List}
use Prim.Native.Nat.{ℕ, ◌+◌}
use native.Mathlib.Omega.{arith}
use lib.ListN.{length, length-drop}
use Rattle.std.proofs.lemmas.List.{take_rest}
use Rattle.splitter.specs.Items.{digit_run}
use Rattle.splitter.proofs.RunLaws.{digits-end, digits-stop, digits-on}
use Rattle.splitter.proofs.runs.digits_end.Goals as goal

pub returns-then-class-ne-DIGIT : goal.returns-then-class-ne-DIGIT
returns-then-class-ne-DIGIT c =
    let end = digits-stop _ _ c.loop-i.invariant c.loop-i-test.true refl c.class.ensures c.if-class-ne-DIGIT.true in
    ap (λ (k : ℕ). c.args.from + k) (end ∙ ap (λ (s : List ℕ). length (digit_run s)) (take_rest c.args.s.now c.args.from))

pub loop-i-preserved : goal.loop-i-preserved
loop-i-preserved c = digits-on _ _ c.loop-i.invariant c.loop-i-test.true refl c.class.ensures c.if-class-ne-DIGIT.false

pub returns : goal.returns
returns c =
    let t = take_rest c.args.s.now c.args.from in
    let end = digits-end _ _ c.loop-i.invariant c.loop-i-test.false in
    let h = rw t at end in
    omega (arith, h, length-drop c.args.from c.args.s.now)
