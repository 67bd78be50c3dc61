-- `corners::firsts::all_firsts` meets its contract: the productions before word k are looked at, and a turn looks at one more, whose first place says whose it
-- is; the last word is that of the last production.
use Rattle.corners.proofs.FirstLaws.{Looked}
use Rattle.corners.proofs.firsts.all_firsts.Given as goal

abbrev pub invariant-loop-k : goal.invariant-loop-k
invariant-loop-k l = Looked l.tables l.k l.empty l.led l.rows
