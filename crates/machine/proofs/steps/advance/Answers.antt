-- The goals of `machine::steps::advance` that are not found.
use mathlib.Core.Bool.{not}
use mathlib.Core.Path.{ap}
use native.Mathlib.Omega.{arith}
use Rattle.base.proofs.Booleans.{clash}
use Rattle.grammar.proofs.WordLaws.{facing-of}
use Rattle.machine.proofs.AdvanceLaws.{place-small, turn-pop, turn_match, out-call, out-over, out-other, out-early, out-end}
use Rattle.machine.proofs.MoveLaws.{moves-depth}
use Rattle.machine.specs.inside.Moves.{stay}
use Rattle.machine.proofs.steps.advance.Goals as goal

pub loop-d-init : goal.loop-d-init
loop-d-init c = stay

pub returns-then-i-n : goal.returns-then-i-n
returns-then-i-n c =
    out-end c.args.note.now c.loop-d.invariant (facing-of _ _ c.place_at.ensures c.in-End.is)
    c.if-d-eq0.true c.if-i-n.true

pub returns-then-d-eq0 : goal.returns-then-d-eq0
returns-then-d-eq0 c =
    out-early c.args.note.now c.loop-d.invariant (facing-of _ _ c.place_at.ensures c.in-End.is)
    c.if-d-eq0.true c.if-i-n.false

pub return_place-p-requires : goal.return_place-p-requires
return_place-p-requires c = omega (arith, c.requires.1, moves-depth c.loop-d.invariant)

pub loop-d-preserved-in-End : goal.loop-d-preserved-in-End
loop-d-preserved-in-End c =
    turn-pop c.args.note.now c.loop-d.invariant (facing-of _ _ c.place_at.ensures c.in-End.is)
    c.if-d-eq0.false c.return_place-p.ensures

pub returns-then-n-i : goal.returns-then-n-i
returns-then-n-i c = out-over c.args.note.now c.loop-d.invariant (facing-of _ _ c.place_at.ensures c.in-Token.is) c.if-n-i.true

pub returns-then-not-admits : goal.returns-then-not-admits
returns-then-not-admits c =
    out-other c.args.note.now c.loop-d.invariant (facing-of _ _ c.place_at.ensures c.in-Token.is)
    c.token_at-t.ensures c.admits.ensures (ap not c.if-not-admits.true)

pub overflow_add-p : goal.overflow_add-p
overflow_add-p c = omega (arith, place-small _ _ (facing-of _ _ c.place_at.ensures c.in-Token.is) (λ z. clash (cc)))

pub loop-d-preserved : goal.loop-d-preserved
loop-d-preserved c =
    turn_match c.args.note.now c.loop-d.invariant (facing-of _ _ c.place_at.ensures c.in-Token.is)
    c.token_at-t.ensures c.admits.ensures (ap not c.if-not-admits.false)

pub overflow_add-at : goal.overflow_add-at
overflow_add-at c = omega (arith, place-small _ _ (facing-of _ _ c.place_at.ensures c.in-Nonterminal.is) (λ z. clash (cc)))

pub returns-in-Nonterminal : goal.returns-in-Nonterminal
returns-in-Nonterminal c = out-call c.args.note.now c.loop-d.invariant (facing-of _ _ c.place_at.ensures c.in-Nonterminal.is)
