-- The goals of `splitter::words::Words::kind_of` that are not found.
use mathlib.Core.Path.{refl}
use native.Mathlib.Omega.{arith}
use Rattle.splitter.proofs.RunLaws.{bucket-lt}
use Rattle.splitter.proofs.IndexLaws.{seek-begins, seek_found, seek-on, seek-less, seek-none}
use Rattle.splitter.proofs.words.Words.kind_of.Goals as goal

pub overflow_add-bucket : goal.overflow_add-bucket
overflow_add-bucket c = omega (arith, c.requires, bucket-lt 0 c.args.word.now (omega arith))

pub bounds-self-bucket : goal.bounds-self-bucket
bounds-self-bucket c = omega (arith, c.requires, bucket-lt 0 c.args.word.now (omega arith))

pub loop-p-init : goal.loop-p-init
loop-p-init c = seek-begins _ _ _ _ c.args.self.now.indexed _ c.requires c.from-p.ensures

pub returns-then-is_word : goal.returns-then-is_word
returns-then-is_word c = seek_found _ _ _ _ c.args.self.now.indexed _ c.loop-p.invariant (omega arith) refl c.is_word.ensures c.if-is_word.true

pub loop-p-smaller : goal.loop-p-smaller
loop-p-smaller c = seek-less _ _ _ _ c.args.self.now.indexed c.loop-p.invariant.0 (omega arith) refl c.from-p-in-loop-p.ensures

pub loop-p-preserved : goal.loop-p-preserved
loop-p-preserved c =
    seek-on _ _ _ _ c.args.self.now.indexed _ c.loop-p.invariant (omega arith) refl c.is_word.ensures c.if-is_word.false
    c.from-p-in-loop-p.ensures

pub returns : goal.returns
returns c = seek-none _ _ _ _ c.args.self.now.indexed _ c.loop-p.invariant (omega arith)
