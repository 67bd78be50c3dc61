-- `search::adding::add` meets its contract: what is kept is what `add` of the laws says, whatever was kept before; a set holds the positions that it did,
-- and the new one.
use mathlib.Core.Path.{ap}
use native.Mathlib.Omega.{arith}
use lib.ListN.{length}
use Rattle.search.proofs.TagWordLaws.{one-fits}
use Rattle.search.proofs.AddLaws.{add_none, add-again, add-other, add-several, more-then, more-else, with-long}
use Rattle.search.proofs.adding.add.Goals as goal
use Rattle.search.proofs.adding.add.Goals.{then-more, else-more}

pub returns-then-m-j : goal.returns-then-m-j
returns-then-m-j c = (
  add-again _ _ _ _ _ _ c.in-One.is (omega arith)
      (elim c.if-more.branch [ then-more w ↦ more-then _ _ w.if-more.true w.result-is | else-more w ↦ more-else _ _ w.if-more.false w.result-is ]),
  (one-fits c.in-One.is c.requires.0.0, c.requires.0.1),
)

pub with-set-requires : goal.with-set-requires
with-set-requires c = let h = one-fits c.in-One.is c.requires.0.0 in omega arith

pub returns-in-None : goal.returns-in-None
returns-in-None c = (add_none _ _ _ c.in-None.is, ((c.requires.1, c.requires.2), c.requires.0.1))

pub returns-else-m-j : goal.returns-else-m-j
returns-else-m-j c =
    let h = one-fits c.in-One.is c.requires.0.0 in (
      add-other _ _ _ _ _ _ c.in-One.is (λ e. omega arith) (omega arith) (omega arith) c.empty.ensures c.with-set.ensures
          c.with.ensures,
      (tt, with-long _ _ (with-long _ _ (ap length c.empty.ensures) c.with-set.ensures) c.with.ensures),
    )

pub returns-in-Several : goal.returns-in-Several
returns-in-Several c = (
  add-several _ _ _ c.in-Several.is c.requires.0.1 (omega arith) c.with-in-Several.ensures,
  (tt, with-long _ _ c.requires.0.1 c.with-in-Several.ensures),
)
