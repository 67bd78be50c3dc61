-- `corners::moves::corners` meets its contract: the rows from a on say where one move leads, and the tables hold them; those below a say what stands first, as
-- they came, and the tables hold nothing of them. A turn widens the row before and puts it into the tables, unless it is empty: then it says where one move
-- leads as it is, and the tables hold it already. `done` holds nonterminals from which moves end, at first those outside `led`, whose rows are
-- empty; so the one of the turn, whose row is not, is none of them, and joins only if its moves lead to them alone: never to itself.

use Rattle.corners.proofs.WidenLaws.{Widens}
use Rattle.corners.proofs.moves.corners.Given as goal

abbrev pub invariant-loop-a : goal.invariant-loop-a
invariant-loop-a l = Widens l.initial.tables l.nullable l.initial.rows l.a l.done l.rows l.tables
