-- The goals of `configurations::members::is_member` that are not found.
use mathlib.Core.Path.{◌≡◌, ap, ◌∙◌}
use Prim.Native.Nat.{◌+◌, ◌-◌, ◌*◌, ◌%◌}
use native.Mathlib.Omega.{arith}
use Rattle.lookahead.specs.Closing.{member?}
use Rattle.configurations.specs.inside.Held.{block_members}
use Rattle.configurations.proofs.HeldLaws.{held_all}
use Rattle.configurations.proofs.SearchLaws.{part_of, part-hit, part_none, block-is}
use Rattle.configurations.proofs.members.is_member.Goals.{else-has_head-via-then-has_head+else-among, else-has_head-via-else-has_head}
use Rattle.configurations.proofs.members.is_member.Goals as goal

pub loop-b-init : goal.loop-b-init
loop-b-init c = (omega arith, ap (member? _) (held_all _ _))

pub has_head-requires : goal.has_head-requires
has_head-requires c = (part_of c.requires.0 _ _ (omega arith) (omega arith), c.requires.1)

pub among-requires : goal.among-requires
among-requires c = (part_of c.requires.0 _ _ (omega arith) (omega arith), c.requires.1)

pub returns-then-among : goal.returns-then-among
returns-then-among c = part-hit _ _ _ _ _ (omega arith) c.loop-b.invariant.1 (block-is _ _ _ _ c.among.ensures c.if-among.true)

pub loop-b-preserved : goal.loop-b-preserved
loop-b-preserved c =
    let z : block_members * (c.loop-b.b + 1) ≡ block_members * c.loop-b.b + block_members = omega arith in
    rw z (
      omega arith,
      part_none _ _ _ _ _ (omega arith) c.loop-b.invariant.1 (elim c.else-has_head.branch [
        | else-has_head-via-then-has_head+else-among w ↦ block-is _ _ _ _ w.among.ensures w.if-among.false
        | else-has_head-via-else-has_head w ↦ c.has_head.ensures w.if-has_head.false
      ]),
    )

pub among-requires-2 : goal.among-requires-2
among-requires-2 c = (part_of c.requires.0 _ _ (omega arith) (omega arith), c.requires.1)

pub returns : goal.returns
returns c =
    let z : c.args.n - c.args.n % block_members ≡ block_members * c.loop-b.b = omega arith in
    c.among-2.ensures ∙ rw z c.loop-b.invariant.1
