-- `splitter::cutting::item_at` meets its contract: each class that begins an item is one case of `item_in`.
use mathlib.Core.Path.{refl}
use native.Mathlib.Omega.{arith}
use Prim.Native.Nat.{◌-◌}
use lib.ListN.{take, drop}
use Rattle.splitter.proofs.IndexLaws.{run-bucket, run-word, word-kind-most}
use Rattle.splitter.proofs.ItemLaws.{word-item, number-item, mark-item}
use Rattle.splitter.proofs.cutting.item_at.Goals as goal

pub kind_of-kind-requires : goal.kind_of-kind-requires
kind_of-kind-requires c =
    let word = run-word _ _ _ c.word_run-run.ensures.run (omega arith) in
    rw word (run-bucket _ _ _ c.word_run-run.ensures.run (omega arith))

pub narrow-requires : goal.narrow-requires
narrow-requires c =
    let w = c.args.words.now in
    let most = word-kind-most w.list.now w.starts w.count (take (c.word_run-run.result.end - c.args.at) (drop c.args.at c.args.line.now)) in
    omega (arith, c.kind_of-kind.ensures, most, w.indexed.few)

pub returns-then-class-eq-LETTER : goal.returns-then-class-eq-LETTER
returns-then-class-eq-LETTER c =
    let word = run-word _ _ _ c.word_run-run.ensures.run (omega arith) in
    word-item _ _ _ c.requires.0 refl c.class-class.ensures c.if-class-eq-LETTER.true c.word_run-run.ensures.run
    (rw word at c.kind_of-kind.ensures) c.narrow.ensures

pub returns-then-class-eq-DIGIT : goal.returns-then-class-eq-DIGIT
returns-then-class-eq-DIGIT c = number-item _ _ _ (omega arith) refl c.class-class.ensures c.if-class-eq-DIGIT.true c.number_end-end.ensures

pub returns : goal.returns
returns c =
    mark-item _ _ _ (omega arith) refl c.class-class.ensures c.if-class-eq-LETTER.false c.if-class-eq-DIGIT.false c.mark_kind.ensures refl c.from.ensures
