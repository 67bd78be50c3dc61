-- `chart::derived` meets its contract: at its end a production leads to where it is, at a token to what the next cell holds if the token matches, at a
-- nonterminal from each of its ends on; one that stands last leads where it ends.
use mathlib.Core.Bool.{not}
use mathlib.Core.Path.{ap}
use native.Mathlib.Omega.{arith}
use Rattle.grammar.proofs.WordLaws.{facing-of}
use Rattle.cells.proofs.MatchLaws.{matches-found}
use Rattle.cells.proofs.Spots.{spot_in}
use Rattle.ends.proofs.InRange.{row-ahead, row-lent, row-short, row-position, row-token, row-call, row_named}
use Rattle.chart.proofs.DerivedLaws.{derived-end, derived-other, derived-token, derived-call}
use Rattle.chart.proofs.LastLaws.{derived-behind}
use Rattle.chart.proofs.derived.Goals as goal

pub with-requires : goal.with-requires
with-requires c = row-position c.requires.ended.row

pub returns-then-not-matches : goal.returns-then-not-matches
returns-then-not-matches c =
    let faces = facing-of _ _ c.place_at.ensures c.in-Token.is in
    derived-other _ _ _ _ _ _ faces c.matches.ensures (ap not c.if-not-matches.true) c.empty-then-not-matches.ensures

pub overflow_add-i : goal.overflow_add-i
overflow_add-i c = omega (arith, row-position c.requires.ended.row)

pub cell-requires : goal.cell-requires
cell-requires c =
    let faces = facing-of _ _ c.place_at.ensures c.in-Token.is in
    let row = c.requires.ended.row in
    let size = c.size-places.ensures in
    let next = row-token row _ c.requires.within faces in
    let inside = matches-found _ _ _ _ c.matches.ensures (ap not c.if-not-matches.false) in
    spot_in _ _ _ _ _ (row-lent row size) (omega arith) (omega arith)

pub overflow_mul-b : goal.overflow_mul-b
overflow_mul-b c =
    let faces = facing-of _ _ c.place_at.ensures c.in-Nonterminal.is in
    omega (arith, row_named c.requires.ended.row _ faces)

pub read-s-requires : goal.read-s-requires
read-s-requires c =
    let faces = facing-of _ _ c.place_at.ensures c.in-Nonterminal.is in
    omega (arith, row_named c.requires.ended.row _ faces, c.requires.ended.long)

pub is_end-requires : goal.is_end-requires
is_end-requires c = c.requires.ended.row.ready.fits.long

pub returns-then-is_end : goal.returns-then-is_end
returns-then-is_end c =
    let faces = facing-of _ _ c.place_at.ensures c.in-Nonterminal.is in
    derived-behind c.requires.ended _ _ c.requires.within faces c.requires.behind c.is_end.ensures c.if-is_end.true
    c.read-s.ensures

pub through-requires : goal.through-requires
through-requires c =
    let faces = facing-of _ _ c.place_at.ensures c.in-Nonterminal.is in
    let row = c.requires.ended.row in
    let size = c.size-places.ensures in
    let next = row-call row _ c.requires.within faces in
    record { lent = row-lent row size; within = omega arith; ahead = row-ahead row size _ _ next (omega arith) }

pub returns-in-End : goal.returns-in-End
returns-in-End c =
    let faces = facing-of _ _ c.place_at.ensures c.in-End.is in
    derived-end _ _ _ _ _ _ faces (row-position c.requires.ended.row) c.empty.ensures c.with.ensures

pub returns-else-not-matches : goal.returns-else-not-matches
returns-else-not-matches c =
    let faces = facing-of _ _ c.place_at.ensures c.in-Token.is in
    derived-token _ _ _ _ _ _ c.size-places.ensures faces c.matches.ensures (ap not c.if-not-matches.false) c.cell.ensures

pub returns-else-is_end : goal.returns-else-is_end
returns-else-is_end c =
    let faces = facing-of _ _ c.place_at.ensures c.in-Nonterminal.is in
    let row = c.requires.ended.row in
    derived-call _ _ _ _ _ _ _ _ c.size-places.ensures faces row.here (row-short row) c.read-s.ensures c.through.ensures
