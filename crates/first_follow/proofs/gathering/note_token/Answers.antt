-- `first_follow::gathering::note_token` meets its contract: two stores, one behind the other.
use native.Mathlib.Omega.{arith}
use lib.ListN.{length-set}
use Rattle.first_follow.proofs.gathering.note_token.Goals as goal

pub bounds-masks-k-3 : goal.bounds-masks-k-3
bounds-masks-k-3 c = simp length-set (omega arith)

pub bounds-masks-k-4 : goal.bounds-masks-k-4
bounds-masks-k-4 c = simp length-set (omega arith)

pub returns : goal.returns
returns c = cc
