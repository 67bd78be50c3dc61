-- `machine::frames::push` meets its contract: the first word of the frame is the return place, the other five are its set.
use Rattle.machine.proofs.PushLaws.{push-is, length_push}
use mathlib.Core.Path.{ap, ◌∙◌}
use lib.ListN.{length, length-set}
use native.Mathlib.Omega.{arith}
use Rattle.machine.proofs.frames.push.Goals as goal

pub put_rest-requires : goal.put_rest-requires
put_rest-requires c = simp length-set (omega arith)

pub shape_of-ws : goal.shape_of-ws
shape_of-ws c =
    let a = c.args in
    ap length (push-is a.ws.now a.base a.k a.q a.s.words c.word.ensures c.put_rest.ensures)
    ∙ length_push a.ws.now a.base a.k a.q a.s.words

pub returns : goal.returns
returns c = push-is _ _ _ _ _ c.word.ensures c.put_rest.ensures
