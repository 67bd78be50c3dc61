-- `positions::put` meets its contract: the five stores are those of `put_at`, and each lies in the slice.
use native.Mathlib.Numerals.{add-one, add-two, add-three, add-four}
use native.Mathlib.Omega.{arith}
use lib.ListN.{length-set}
use Rattle.positions.specs.inside.Words.{put_at}
use Rattle.positions.proofs.put.Goals as goal

pub bounds-ws-at-2 : goal.bounds-ws-at-2
bounds-ws-at-2 c = simp length-set (omega arith)

pub bounds-ws-at-3 : goal.bounds-ws-at-3
bounds-ws-at-3 c = simp length-set (omega arith)

pub bounds-ws-at-4 : goal.bounds-ws-at-4
bounds-ws-at-4 c = simp length-set (omega arith)

pub bounds-ws-at-5 : goal.bounds-ws-at-5
bounds-ws-at-5 c = simp length-set (omega arith)

pub returns : goal.returns
unfolding put_at
returns c = rw (add-one, add-two, add-three, add-four)
