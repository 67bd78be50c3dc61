-- `configurations::words::put` meets its contract: its words are stored one after another.
use lib.ListN.{length-set}
use native.Mathlib.Omega.{arith}
use Rattle.configurations.proofs.WordLaws.{put-stored}
use Rattle.configurations.proofs.words.put.Goals as goal

pub bounds-words-at-2 : goal.bounds-words-at-2
bounds-words-at-2 c = simp length-set (omega arith)

pub bounds-words-at-3 : goal.bounds-words-at-3
bounds-words-at-3 c = simp length-set (omega arith)

pub returns : goal.returns
returns c = put-stored _ _ _ c.low.ensures c.high.ensures
