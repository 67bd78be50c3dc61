-- The goals of `learning::rules::shared` that are not found.
use mathlib.Core.Path.{refl, ◌∙◌}
use native.Mathlib.Omega.{arith}
use Rattle.configurations.proofs.HeldLaws.{member-has, exact-at}
use Rattle.learning.proofs.JudgeLaws.{shared-pairs, pairs_first, pairs-none, pair-hit, pair-next, pair_end}
use Rattle.learning.proofs.StackLaws.{pair-past}
use Rattle.learning.proofs.rules.shared.Goals.{else-loop-j-test, then-loop-j-test+then-not-level}
use Rattle.learning.proofs.rules.shared.Goals as goal

pub search-init : goal.search-init
search-init c = (shared-pairs _, refl)

pub member-c-requires : goal.member-c-requires
member-c-requires c = member-has c.requires.room _ c.search-test.true

pub loop-j-init : goal.loop-j-init
loop-j-init c = (
  pairs_first _ _ _ c.search.invariant.0 c.search-test.true c.member-c.ensures,
  c.search.invariant.1,
  exact-at c.requires.room _ c.search-test.true c.member-c.ensures,
  omega arith,
)

pub member-d-requires : goal.member-d-requires
member-d-requires c = member-has c.requires.room _ c.loop-j-test.true

pub level-requires : goal.level-requires
level-requires c = (c.loop-j.invariant.2, exact-at c.requires.room _ c.loop-j-test.true c.member-d.ensures)

pub search-preserved : goal.search-preserved
search-preserved c = elim c.loop-j-test.branch [
  | else-loop-j-test w ↦ (pair_end _ _ _ _ _ c.loop-j.invariant.0 (omega (arith, w.loop-j-test.false)), c.loop-j.invariant.1)
  | then-loop-j-test+then-not-level w ↦ (
    pair-past _ c.requires _ _ (omega arith) (omega (arith, c.loop-j.invariant.3)) w.loop-j-test.true
        c.member-c.ensures w.member-d.ensures w.level.ensures w.if-not-level.true c.loop-j.invariant.0,
    c.loop-j.invariant.1,
  )
]

pub conflicts-requires : goal.conflicts-requires
conflicts-requires c = (c.loop-j.invariant.2, exact-at c.requires.room _ c.loop-j-test.true c.member-d.ensures)

pub loop-j-preserved : goal.loop-j-preserved
loop-j-preserved c = (
  pair-next _ _ _ _ _ c.loop-j.invariant.0 c.loop-j-test.true c.member-d.ensures c.conflicts.ensures c.if-conflicts.false,
  c.loop-j.invariant.1,
  c.loop-j.invariant.2,
  omega (arith, c.loop-j.invariant.3),
)

pub returns-after-search : goal.returns-after-search
returns-after-search c = c.search.invariant.1 ∙ pairs-none _ _ _ c.search.invariant.0 (omega arith)

pub returns-then-conflicts : goal.returns-then-conflicts
returns-then-conflicts c =
    pair-hit _ _ _ _ _ c.loop-j.invariant.0 c.loop-j-test.true c.member-d.ensures c.conflicts.ensures
    c.if-conflicts.true
