-- `serving::tabling::table` meets its contract: what is not there yet is filled, and the end place derives the rest only from the note's end.
use native.Mathlib.Omega.{arith}
use Rattle.serving.proofs.TableLaws.{table-put, table-again}
use Rattle.serving.proofs.tabling.table.Goals as goal

pub fill-requires : goal.fill-requires
fill-requires c = (c.requires.ready, c.requires.standing.lent)

pub put_rest-requires : goal.put_rest-requires
put_rest-requires c = omega (arith, c.requires.spaced.base, c.requires.standing.room, c.requires.standing.floored.some, c.fill.ensures.kept)

pub returns-then-known-eq0 : goal.returns-then-known-eq0
returns-then-known-eq0 c =
    table-put _ c.requires.ready _ _ c.requires.standing c.requires.spaced.base c.empty.ensures c.with-s.ensures
    c.put_rest.ensures c.fill.ensures

pub returns : goal.returns
returns c = table-again _ c.requires.ready _ _ c.requires.standing (omega arith) (omega arith)
