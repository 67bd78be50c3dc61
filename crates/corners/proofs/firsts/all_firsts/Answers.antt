-- The goals of `corners::firsts::all_firsts` that are not found.
use mathlib.Core.Path.{refl}
use native.Mathlib.Omega.{arith}
use Prim.Native.Nat.{◌<◌}
use Rattle.grammar.specs.inside.Tables.{nonterminals_in, rule_at}
use Rattle.grammar.proofs.WordLaws.{faces-end, faces-token, faces-nonterminal}
use Rattle.corners.proofs.RuleLaws.{rules-begin, rules-within, owner-told}
use Rattle.corners.proofs.FirstLaws.{looked-none, looked-token, looked-end, looked-nonterminal, looked-all}
use Rattle.corners.proofs.firsts.all_firsts.Goals as goal
use Rattle.corners.proofs.firsts.all_firsts.Goals.{then-code-eq0+then-code-eq0-2, then-code-eq0+else-code-eq0-2, else-code-eq0}

pub loop-k-init : goal.loop-k-init
loop-k-init c =
    let end = rw c.nonterminals-n.ensures at c.rule_at-end.ensures in looked-none _ c.requires.1

pub first_place-first-requires : goal.first_place-first-requires
first_place-first-requires c =
    let end = rw c.nonterminals-n.ensures at c.rule_at-end.ensures in
    (omega (arith, end, rules-within _ c.requires.0), c.requires.0.long)

pub with-requires : goal.with-requires
with-requires c =
    let h = c.requires.0.named _ _ (faces-nonterminal _ _ _ c.code_at-code.ensures c.if-code-eq0.true c.if-code-eq0-2.false) in
    omega (arith, c.requires.0.few)

pub loop-k-preserved : goal.loop-k-preserved
loop-k-preserved c =
    let end = rw c.nonterminals-n.ensures at c.rule_at-end.ensures in
    let within : c.loop-k.k < rule_at c.args.tables.now (nonterminals_in c.args.tables.now) = omega (arith, end) in
    let from = c.loop-k.auto.k in
    elim c.if-code-eq0.branch [
      | then-code-eq0+then-code-eq0-2 w ↦
          let (told, below) = owner-told _ c.requires.0 _ _ from within c.first_place-first.ensures w.place_at-place.ensures in
          rw (w.rows-is, w.empty-is, w.led-is) (looked-end _ _ _ _ _ c.loop-k.invariant _ _ from c.first_place-first.ensures told
          (faces-end _ _ _ c.code_at-code.ensures w.if-code-eq0-2.true) w.with-empty.ensures)
      | then-code-eq0+else-code-eq0-2 w ↦
          let (told, below) = owner-told _ c.requires.0 _ _ from within c.first_place-first.ensures w.place_at-place.ensures in
          rw (w.rows-is, w.empty-is, w.led-is) (looked-nonterminal _ _ _ _ _ c.loop-k.invariant _ _ from c.first_place-first.ensures told below (omega arith)
          (faces-nonterminal _ _ _ c.code_at-code.ensures w.if-code-eq0.true w.if-code-eq0-2.false) w.with-led.ensures w.with.ensures)
      | else-code-eq0 w ↦
          rw (w.rows-is, w.empty-is, w.led-is) (looked-token _ _ _ _ _ c.loop-k.invariant _ _ from c.first_place-first.ensures refl
          (faces-token _ _ _ c.code_at-code.ensures w.if-code-eq0.false))
    ]

pub returns : goal.returns
returns c =
    let end = rw c.nonterminals-n.ensures at c.rule_at-end.ensures in
    let most = c.loop-k.auto.k-end (omega (arith, end, rules-begin _ c.requires.0)) in
    looked-all _ c.requires.0 _ _ _ _ c.loop-k.invariant (omega (arith, end, most))
