-- The goals of `lines::parse` that are not found.
use mathlib.Core.Path.{refl, ap}
use Prim.Native.Nat.{ℕ, ◌+◌, ◌*◌}
use native.Mathlib.Omega.{arith}
use lib.ListN.{length-set}
use Rattle.lines.proofs.LineLaws.{nothing, going-begins, blank-first, blank-many}
use Rattle.lines.proofs.LineLaws.{blank-on, digit-below, digit-above, digit-sixth, digit-high}
use Rattle.lines.proofs.LineLaws.{digit-on, last_empty, last-many, last-good}
use Rattle.lines.proofs.parse.Goals as goal

pub returns-then-line-eq0-clause-note_after : goal.returns-then-line-eq0-clause-note_after
returns-then-line-eq0-clause-note_after c = nothing c.args.line.now c.args.note.now c.if-line-eq0.true

pub loop-byte-init : goal.loop-byte-init
loop-byte-init c = (going-begins _ _ c.if-line-eq0.false, refl, omega arith, omega arith)

pub returns-then-digits-eq0-clause-note_after : goal.returns-then-digits-eq0-clause-note_after
returns-then-digits-eq0-clause-note_after c =
    blank-first _ _ _ _ _ _ c.loop-byte.invariant.0 c.loop-byte-test.true refl c.if-byte-eq32.true c.if-digits-eq0.true

pub returns-then-count-ge-MAX_TOKENS-clause-note_after : goal.returns-then-count-ge-MAX_TOKENS-clause-note_after
returns-then-count-ge-MAX_TOKENS-clause-note_after c =
    blank-many _ _ _ _ _ _ c.loop-byte.invariant.0 c.loop-byte-test.true refl c.if-byte-eq32.true c.if-digits-eq0.false (omega arith) (omega arith)

pub loop-byte-preserved-then-byte-eq32 : goal.loop-byte-preserved-then-byte-eq32
loop-byte-preserved-then-byte-eq32 c = (
  blank-on _ _ _ _ _ _ c.loop-byte.invariant.0 c.loop-byte-test.true refl c.if-byte-eq32.true c.if-digits-eq0.false (omega arith)
      c.narrow.ensures,
  simp length-set (omega arith),
  omega arith,
  omega arith,
)

pub returns-then-byte-lt48-clause-note_after : goal.returns-then-byte-lt48-clause-note_after
returns-then-byte-lt48-clause-note_after c =
    digit-below _ _ _ _ _ _ c.loop-byte.invariant.0 c.loop-byte-test.true refl c.if-byte-eq32.false c.if-byte-lt48.true

pub returns-then-byte-gt57-clause-note_after : goal.returns-then-byte-gt57-clause-note_after
returns-then-byte-gt57-clause-note_after c =
    digit-above _ _ _ _ _ _ c.loop-byte.invariant.0 c.loop-byte-test.true refl c.if-byte-eq32.false c.if-byte-gt57.true

pub returns-then-digits-ge-MAX_DIGITS-clause-note_after : goal.returns-then-digits-ge-MAX_DIGITS-clause-note_after
returns-then-digits-ge-MAX_DIGITS-clause-note_after c =
    digit-sixth _ _ _ _ _ _ c.loop-byte.invariant.0 c.loop-byte-test.true refl c.if-byte-eq32.false c.if-byte-lt48.false c.if-byte-gt57.false
    (omega arith)

pub returns-then-value-gt-MAX_TOKEN-clause-note_after : goal.returns-then-value-gt-MAX_TOKEN-clause-note_after
returns-then-value-gt-MAX_TOKEN-clause-note_after c =
    digit-high _ _ _ _ _ _ c.loop-byte.invariant.0 c.loop-byte-test.true refl c.if-byte-eq32.false c.if-byte-lt48.false c.if-byte-gt57.false
    (omega arith) (omega arith)

pub loop-byte-preserved : goal.loop-byte-preserved
loop-byte-preserved c = (
  digit-on _ _ _ _ _ _ c.loop-byte.invariant.0 c.loop-byte-test.true refl c.if-byte-eq32.false c.if-byte-lt48.false c.if-byte-gt57.false
      (omega arith) (ap (λ (d : ℕ). 10 * c.loop-byte.value + d) c.from.ensures) (omega arith),
  omega arith,
  omega arith,
  omega arith,
)

pub returns-then-digits-eq0-2-clause-note_after : goal.returns-then-digits-eq0-2-clause-note_after
returns-then-digits-eq0-2-clause-note_after c = last_empty _ _ _ _ _ _ c.loop-byte.invariant.0 c.loop-byte-test.false c.if-digits-eq0-2.true

pub returns-then-count-ge-MAX_TOKENS-2-clause-note_after : goal.returns-then-count-ge-MAX_TOKENS-2-clause-note_after
returns-then-count-ge-MAX_TOKENS-2-clause-note_after c =
    last-many _ _ _ _ _ _ c.loop-byte.invariant.0 c.loop-byte-test.false c.if-digits-eq0-2.false (omega arith) (omega arith)

pub returns-clause-note_after : goal.returns-clause-note_after
returns-clause-note_after c =
    last-good _ _ _ _ _ _ c.loop-byte.invariant.0 c.loop-byte-test.false c.if-digits-eq0-2.false (omega arith) (omega arith) c.narrow-2.ensures
