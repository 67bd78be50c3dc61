-- `gate::passing::note_gate` meets its contract: each refusal is given where the definition gives it, in its order, and what passes meets all that a
-- reading rests on.
use native.Mathlib.Omega.{arith}
use Rattle.gate.proofs.PassingLaws.{space-small, long-note, unknown-token, short-space, note-passed}
use Rattle.gate.proofs.passing.note_gate.Goals as goal

pub returns-then-note-gt-MAX_TOKENS : goal.returns-then-note-gt-MAX_TOKENS
returns-then-note-gt-MAX_TOKENS c = long-note _ _ _ c.if-note-gt-MAX_TOKENS.true

pub overflow_mul-places : goal.overflow_mul-places
overflow_mul-places c =
    omega (arith, space-small _ c.args.note.now c.requires c.size-places.ensures (omega (arith, c.if-note-gt-MAX_TOKENS.false)))

pub overflow_mul-places-2 : goal.overflow_mul-places-2
overflow_mul-places-2 c =
    omega (arith, space-small _ c.args.note.now c.requires c.size-places.ensures (omega (arith, c.if-note-gt-MAX_TOKENS.false)))

pub overflow_add-places : goal.overflow_add-places
overflow_add-places c =
    omega (arith, space-small _ c.args.note.now c.requires c.size-places.ensures (omega (arith, c.if-note-gt-MAX_TOKENS.false)))

pub returns-then-space-places : goal.returns-then-space-places
returns-then-space-places c =
    short-space _ _ _ (omega (arith, c.if-note-gt-MAX_TOKENS.false)) c.kinds.ensures c.first_unknown.ensures
    c.in_default.is c.size-places.ensures c.if-space-places.true

pub returns-in-Some : goal.returns-in-Some
returns-in-Some c =
    unknown-token _ _ _ (omega (arith, c.if-note-gt-MAX_TOKENS.false)) c.kinds.ensures c.first_unknown.ensures c.in-Some.is

pub returns : goal.returns
returns c =
    note-passed _ _ _ (omega (arith, c.if-note-gt-MAX_TOKENS.false)) c.kinds.ensures c.first_unknown.ensures
    c.in_default.is c.size-places.ensures c.requires (omega (arith, c.if-space-places.false))
