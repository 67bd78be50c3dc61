-- The goals of `splitter::listing::index` that are not found.
use mathlib.Core.Path.{refl, ◌∙◌}
use native.Mathlib.Omega.{arith}
use Rattle.splitter.specs.inside.Listed.{IndexDid}
use Rattle.splitter.proofs.IndexLaws.{run-bucket, run-word}
use Rattle.splitter.proofs.ListLaws.{list-empty, listed-begins}
use Rattle.splitter.proofs.ListLaws.{bad-letter, bad-many, bad-twice, new_word, list-ends, bad-blank, listed-on, list-short}
use Rattle.splitter.proofs.listing.index.Goals as goal

pub returns-then-list-eq0 : goal.returns-then-list-eq0
unfolding IndexDid
returns-then-list-eq0 c = (refl, rw c.requires.0 (list-empty _ _ c.if-list-eq0.true))

pub loop-at-init : goal.loop-at-init
loop-at-init c = (rw c.requires.0 (listed-begins _ _ _ c.requires.1 c.requires.2 c.if-list-eq0.false), refl)

pub returns-then-class-ne-LETTER : goal.returns-then-class-ne-LETTER
unfolding IndexDid
returns-then-class-ne-LETTER c = bad-letter _ _ _ _ _ c.loop-at.invariant.0 (omega arith) refl c.class.ensures c.if-class-ne-LETTER.true

pub returns-then-words-ge-MAX_WORDS : goal.returns-then-words-ge-MAX_WORDS
unfolding IndexDid
returns-then-words-ge-MAX_WORDS c = bad-many _ _ _ _ _ c.loop-at.invariant.0 (omega arith) refl c.class.ensures (omega arith)

pub kind_of-kind-requires : goal.kind_of-kind-requires
kind_of-kind-requires c =
    let word = run-word _ _ _ c.word_run-run.ensures.run (omega arith) in
    rw word (run-bucket _ _ _ c.word_run-run.ensures.run (omega arith))

pub returns-then-kind-ne-WORD : goal.returns-then-kind-ne-WORD
unfolding IndexDid
returns-then-kind-ne-WORD c =
    let inv = c.loop-at.invariant in
    let word = run-word _ _ _ c.word_run-run.ensures.run (omega arith) in
    bad-twice _ _ _ _ _ inv.0 (omega arith) refl c.class.ensures (omega arith) (rw (inv.1, word) at c.kind_of-kind.ensures) c.if-kind-ne-WORD.true

pub add-requires : goal.add-requires
add-requires c =
    let inv = c.loop-at.invariant in
    let word = run-word _ _ _ c.word_run-run.ensures.run (omega arith) in
    rw inv.1 (
      new_word _ _ _ _ _ inv.0 (omega arith) refl c.class.ensures (omega arith) (rw (inv.1, word) at c.kind_of-kind.ensures) c.if-kind-ne-WORD.false,
      c.word_run-run.ensures.run,
    )

pub returns-then-run-list : goal.returns-then-run-list
unfolding IndexDid
returns-then-run-list c =
    let test = c.loop-at-test.true in
    let inv = c.loop-at.invariant in
    let word = run-word _ _ _ c.word_run-run.ensures.run (omega (arith, test)) in (
      c.add.ensures.0 ∙ inv.1,
      list-ends _ _ _ _ _ inv.0 (omega (arith, test)) refl c.class.ensures (omega (arith, test)) (rw (inv.1, word) at c.kind_of-kind.ensures)
          c.if-kind-ne-WORD.false c.if-class-ne-LETTER.false c.word_run-run.ensures.run (rw inv.1 at c.add.ensures.2) refl c.if-run-list.true c.add.ensures.1,
    )

pub returns-then-list-run-ne-SPACE : goal.returns-then-list-run-ne-SPACE
unfolding IndexDid
returns-then-list-run-ne-SPACE c =
    let test = c.loop-at-test.true in
    let inv = c.loop-at.invariant in
    let word = run-word _ _ _ c.word_run-run.ensures.run (omega (arith, test)) in
    bad-blank _ _ _ _ _ inv.0 (omega (arith, test)) refl c.class.ensures (omega (arith, test)) (rw (inv.1, word) at c.kind_of-kind.ensures)
    c.if-kind-ne-WORD.false c.if-class-ne-LETTER.false c.word_run-run.ensures.run (rw inv.1 at c.add.ensures.2) refl (omega (arith, test)) refl
    c.if-list-run-ne-SPACE.true

pub loop-at-preserved : goal.loop-at-preserved
loop-at-preserved c =
    let test = c.loop-at-test.true in
    let inv = c.loop-at.invariant in
    let word = run-word _ _ _ c.word_run-run.ensures.run (omega (arith, test)) in (
      rw c.add.ensures.1
          (listed-on _ _ _ _ _ inv.0 (omega (arith, test)) refl c.class.ensures (omega (arith, test)) (rw (inv.1, word) at c.kind_of-kind.ensures)
          c.if-kind-ne-WORD.false c.if-class-ne-LETTER.false c.word_run-run.ensures.run (rw inv.1 at c.add.ensures.2) refl (omega (arith, test)) refl
          c.if-list-run-ne-SPACE.false),
      c.add.ensures.0 ∙ inv.1,
    )

pub returns : goal.returns
unfolding IndexDid
returns c = list-short _ _ _ _ _ c.loop-at.invariant.0 c.loop-at-test.false
