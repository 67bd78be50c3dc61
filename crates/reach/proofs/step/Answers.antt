-- `reach::step` meets its contract: nothing leads on from a production's end, a token that matches leads behind itself, and a nonterminal into its
-- productions and behind itself wherever they end.
use mathlib.Core.Bool.{not}
use mathlib.Core.Path.{ap}
use native.Mathlib.Omega.{arith}
use Rattle.grammar.proofs.WordLaws.{facing-of}
use Rattle.reach.proofs.AddLaws.{join-adds}
use Rattle.reach.proofs.StepLaws.{next-token, next-call, step_end, step_other, step-match, call-new, call-old}
use Rattle.reach.proofs.step.Goals as goal

pub place_at-requires : goal.place_at-requires
place_at-requires c = c.requires.0.given.ready.fits.long

pub returns-then-not-matches : goal.returns-then-not-matches
returns-then-not-matches c =
    let faces = facing-of _ _ c.place_at.ensures c.in-Token.is in
    step_other _ _ _ _ faces _ c.matches.ensures (ap not c.if-not-matches.true)

pub overflow_add-i : goal.overflow_add-i
overflow_add-i c = omega (arith, c.requires.0.given.lent.short, c.requires.0.here)

pub mark-requires : goal.mark-requires
mark-requires c =
    let faces = facing-of _ _ c.place_at.ensures c.in-Token.is in
    let start = c.requires.0 in
    let place = next-token _ start.given.ready _ c.requires.1 faces in
    record { place = place; position = omega (arith, start.given.lent.short, start.here); long = start.long }

pub ends_of-ends-requires : goal.ends_of-ends-requires
ends_of-ends-requires c =
    let faces = facing-of _ _ c.place_at.ensures c.in-Nonterminal.is in
    let given = c.requires.0.given in
    record {
      ready = given.ready;
      lent = record { tokens = _; lent = given.lent; here = c.requires.0.here };
      named = given.ready.fits.named _ _ faces;
    }

pub enter-entered-requires : goal.enter-entered-requires
enter-entered-requires c =
    let faces = facing-of _ _ c.place_at.ensures c.in-Nonterminal.is in
    let start = c.requires.0 in
    let ready = start.given.ready in
    record { ready = ready; named = ready.fits.named _ _ faces; position = omega (arith, start.given.lent.short, start.here); long = start.long }

pub join-returned-requires : goal.join-returned-requires
join-returned-requires c =
    let faces = facing-of _ _ c.place_at.ensures c.in-Nonterminal.is in
    let given = c.requires.0.given in
    let next = next-call _ given.ready _ c.requires.1 faces in
    omega (arith, c.enter-entered.auto.sets, c.requires.0.long)

pub returns-in-End : goal.returns-in-End
returns-in-End c =
    let faces = facing-of _ _ c.place_at.ensures c.in-End.is in
    step_end _ _ _ _ _ faces

pub returns-else-not-matches : goal.returns-else-not-matches
returns-else-not-matches c =
    let faces = facing-of _ _ c.place_at.ensures c.in-Token.is in
    step-match _ _ _ _ faces c.matches.ensures (ap not c.if-not-matches.false) c.mark.ensures

pub returns-then-entered : goal.returns-then-entered
returns-then-entered c =
    let faces = facing-of _ _ c.place_at.ensures c.in-Nonterminal.is in
    let given = c.requires.0.given in
    let next = next-call _ given.ready _ c.requires.1 faces in
    let returned = join-adds (omega (arith, c.enter-entered.auto.sets, c.requires.0.long)) next c.join-returned.ensures in
    call-new _ _ _ _ _ _ given.ready given.charted c.requires.0.here c.ends_of-ends.ensures _ faces c.enter-entered.ensures returned
    c.if-entered.true

pub returns-else-entered : goal.returns-else-entered
returns-else-entered c =
    let faces = facing-of _ _ c.place_at.ensures c.in-Nonterminal.is in
    let given = c.requires.0.given in
    let next = next-call _ given.ready _ c.requires.1 faces in
    let returned = join-adds (omega (arith, c.enter-entered.auto.sets, c.requires.0.long)) next c.join-returned.ensures in
    call-old _ _ _ _ _ _ given.ready given.charted c.requires.0.here c.ends_of-ends.ensures _ faces c.enter-entered.ensures returned
    c.if-entered.false
