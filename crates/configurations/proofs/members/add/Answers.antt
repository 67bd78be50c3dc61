-- `configurations::members::add` meets its contract: a member stays one, and a new one is put behind the others.
use Rattle.configurations.proofs.HeldLaws.{room-has}
use Rattle.configurations.proofs.GrowLaws.{add-member, add-full, add-new}
use native.Mathlib.Omega.{arith}
use Rattle.configurations.proofs.members.add.Goals as goal

pub returns-then-is_member : goal.returns-then-is_member
returns-then-is_member c = add-member _ _ c.requires.0 _ c.is_member.ensures c.if-is_member.true

pub returns-then-n-eq-MEMBERS : goal.returns-then-n-eq-MEMBERS
returns-then-n-eq-MEMBERS c = add-full _ _ c.requires.0 _ c.requires.1 c.is_member.ensures c.if-is_member.false c.if-n-eq-MEMBERS.true

pub put-requires : goal.put-requires
put-requires c = room-has c.requires.0 _ (omega (arith, c.requires.0.few))

pub overflow_add-result : goal.overflow_add-result
overflow_add-result c = omega (arith, c.requires.0.few)

pub returns : goal.returns
returns c = add-new _ _ c.requires.0 _ c.requires.1 c.is_member.ensures c.if-is_member.false c.if-n-eq-MEMBERS.false c.put.ensures
