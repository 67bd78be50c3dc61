-- The goals of `first_follow::gathering::gather` that are not found.
use native.Mathlib.Omega.{arith}
use Prim.Native.Nat.{◌<◌}
use Rattle.grammar.specs.inside.Tables.{grammar_in}
use Rattle.first_follow.proofs.TurnLaws.{turn-begin, turn-named, turn-owned, turn-kind, turn_end, turn-token, turn-over, turn-stop, turn-done}
use Rattle.first_follow.proofs.gathering.gather.Goals as goal
use Rattle.first_follow.proofs.gathering.gather.Goals.{in-End, in-Token, in-Nonterminal+then-has, in-Nonterminal+else-has}

pub loop-p-init : goal.loop-p-init
loop-p-init c = turn-begin _ c.requires.0 _ c.requires.2

pub note_end-requires : goal.note_end-requires
note_end-requires c = (
  turn-owned _ c.requires.0 _ (omega (arith, c.size-size.ensures)) c.place_at-place.ensures,
  c.loop-p.invariant.gathered.long.last-long,
)

pub note_token-requires : goal.note_token-requires
note_token-requires c = (
  turn-kind _ c.requires.0 _ (omega (arith, c.size-size.ensures)) c.place_at-place.ensures _ c.in-Token.is,
  turn-owned _ c.requires.0 _ (omega (arith, c.size-size.ensures)) c.place_at-place.ensures,
  c.loop-p.invariant.gathered.long.masks-long,
)

pub note_call-requires : goal.note_call-requires
note_call-requires c = (
  turn-named _ c.requires.0 _ _ c.place_at-place.ensures c.in-Nonterminal.is,
  turn-owned _ c.requires.0 _ (omega (arith, c.size-size.ensures)) c.place_at-place.ensures,
  c.loop-p.invariant.gathered.long.above-long,
  c.loop-p.invariant.gathered.long.before-long,
)

pub has-requires : goal.has-requires
has-requires c = turn-named _ c.requires.0 _ _ c.place_at-place.ensures c.in-Nonterminal.is

pub with-ahead-requires : goal.with-ahead-requires
with-ahead-requires c = turn-named _ c.requires.0 _ _ c.place_at-place.ensures c.in-Nonterminal.is

pub with-ahead-requires-else-has : goal.with-ahead-requires-else-has
with-ahead-requires-else-has c = turn-named _ c.requires.0 _ _ c.place_at-place.ensures c.in-Nonterminal.is

pub loop-p-preserved : goal.loop-p-preserved
loop-p-preserved c =
    let within : c.loop-p.p < (grammar_in c.args.tables.now).size = omega (arith, c.size-size.ensures) in
    let p = c.place_at-place.ensures in
    elim c.match-place.branch [
      | in-End w ↦
          rw (w.masks-is, w.above-is, w.before-is, w.last-is, w.ahead-is, w.lead-is)
          (turn_end _ c.requires.0 _ within p _ _ _ c.loop-p.invariant w.in-End.is w.note_end.ensures)
      | in-Token w ↦
          rw (w.masks-is, w.above-is, w.before-is, w.last-is, w.ahead-is, w.lead-is)
          (turn-token _ c.requires.0 _ within p _ _ _ c.loop-p.invariant _ w.in-Token.is w.note_token.ensures)
      | in-Nonterminal+then-has w ↦
          rw (w.masks-is, w.above-is, w.before-is, w.last-is, w.ahead-is, w.lead-is)
          (turn-over _ c.requires.0 _ within p _ _ _ c.loop-p.invariant _ c.requires.1 _ w.in-Nonterminal.is w.note_call.ensures w.has.ensures w.if-has.true
          w.with-ahead.ensures)
      | in-Nonterminal+else-has w ↦
          rw (w.masks-is, w.above-is, w.before-is, w.last-is, w.ahead-is, w.lead-is)
          (turn-stop _ c.requires.0 _ within p _ _ _ c.loop-p.invariant _ c.requires.1 _ w.in-Nonterminal.is w.note_call.ensures w.has.ensures w.if-has.false
          w.with-ahead-else-has.ensures)
    ]

pub returns : goal.returns
returns c = let e = c.size-size.ensures in turn-done _ _ _ _ c.loop-p.invariant (omega arith)
