-- `learning::rules::judge` meets its contract: the rules are tried in order, each on the kept configurations.
use Prim.Native.Nat.{ℕ}
use native.Mathlib.Omega.{arith}
use Rattle.configurations.proofs.HeldLaws.{member-has}
use Rattle.learning.proofs.JudgeLaws.{judge-none, judge-agreed, judge-apart, judge-conflict, judge-settled}
use Rattle.learning.proofs.rules.judge.Goals.{then-not-shared-via-then-not-shared, then-not-shared-via-else-not-shared+then-settled}
use Rattle.learning.proofs.rules.judge.Goals as goal

pub returns-then-first-n : goal.returns-then-first-n
returns-then-first-n c = judge-none _ _ _ (omega arith)

pub member-requires : goal.member-requires
member-requires c = member-has c.requires.room _ (omega arith)

pub returns-then-agreed : goal.returns-then-agreed
returns-then-agreed c = judge-agreed _ _ _ (omega arith) c.member.ensures c.alternative-b.ensures c.agreed.ensures c.if-agreed.true

pub returns-then-not-shared : goal.returns-then-not-shared
returns-then-not-shared c =
    let small = λ (i : ℕ). (c.type_inv.members i).fits in
    elim c.then-not-shared.branch [
      | then-not-shared-via-then-not-shared w ↦
          judge-apart _ _ _ (omega arith) c.member.ensures c.alternative-b.ensures c.agreed.ensures c.if-agreed.false
          c.shared.ensures w.if-not-shared.true c.requires small
      | then-not-shared-via-else-not-shared+then-settled w ↦
          judge-settled _ _ _ (omega arith) c.member.ensures c.alternative-b.ensures c.agreed.ensures c.if-agreed.false
          c.shared.ensures w.if-not-shared.false w.settled.ensures w.if-settled.true c.requires small
    ]

pub returns : goal.returns
returns c =
    judge-conflict _ _ _ (omega arith) c.member.ensures c.alternative-b.ensures c.agreed.ensures c.if-agreed.false
    c.shared.ensures c.if-not-shared.false c.settled.ensures c.if-settled.false
