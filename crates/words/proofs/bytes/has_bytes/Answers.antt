-- The goals of `words::bytes::has_bytes` that are not found.
use Rattle.words.proofs.PackSteps.{compare-end, compare-short, compare-differs, compare-next, compare-begins}
use native.Mathlib.Omega.{arith}
use mathlib.Core.Path.{refl}
use Rattle.words.proofs.bytes.has_bytes.Goals as goal

pub loop-i-init : goal.loop-i-init
loop-i-init c = compare-begins _ _

pub returns-then-cache-k : goal.returns-then-cache-k
returns-then-cache-k c = compare-short _ _ _ _ c.loop-i.invariant (omega arith) c.if-cache-k.true

pub returns-then-cache-k-2 : goal.returns-then-cache-k-2
returns-then-cache-k-2 c = compare-differs _ _ _ _ c.loop-i.invariant (omega arith) c.if-cache-k.false refl c.word_at.ensures c.if-cache-k-2.true

pub loop-i-preserved : goal.loop-i-preserved
loop-i-preserved c = compare-next _ _ _ _ c.loop-i.invariant (omega arith) c.if-cache-k.false refl c.word_at.ensures c.if-cache-k-2.false

pub returns : goal.returns
returns c = compare-end _ _ _ _ c.loop-i.invariant (omega arith)
