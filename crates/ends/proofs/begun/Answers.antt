-- The goals of `ends::begun` that are not found.
use mathlib.Core.Bool.{not}
use mathlib.Core.Path.{ap, ◌∙◌}
use native.Mathlib.Omega.{arith}
use lib.ListN.{length}
use Rattle.grammar.proofs.WordLaws.{facing-of}
use Rattle.positions.proofs.SetLaws.{length_union}
use Rattle.cells.proofs.MatchLaws.{matches-found}
use Rattle.cells.proofs.Spots.{spot_in}
use Rattle.ends.proofs.InRange.{row-ahead, row-lent, row-short, row-position, row-places, row-token, row-call, row_named}
use Rattle.ends.proofs.BegunLaws.{leading-begins, leading_end, leading-other, leading-token, leading-stops, leading-goes}
use Rattle.ends.proofs.begun.Goals as goal

pub loop-p-init : goal.loop-p-init
loop-p-init c = (c.requires.within, ap length c.empty-r.ensures, leading-begins _ _ _ _ _ _ _ c.empty-r.ensures)

pub returns-in-End : goal.returns-in-End
returns-in-End c =
    let faces = facing-of _ _ c.place_at.ensures c.in-End.is in
    leading_end _ _ _ _ _ _ _ _ c.loop-p.invariant.2 faces (row-position c.requires.row) c.loop-p.invariant.1 c.with.ensures

pub returns-then-not-matches : goal.returns-then-not-matches
returns-then-not-matches c =
    let faces = facing-of _ _ c.place_at.ensures c.in-Token.is in
    leading-other _ _ _ _ _ _ _ _ c.loop-p.invariant.2 faces c.matches.ensures (ap not c.if-not-matches.true)

pub overflow_add-i : goal.overflow_add-i
overflow_add-i c = omega (arith, row-position c.requires.row)

pub cell-t-requires : goal.cell-t-requires
cell-t-requires c =
    let faces = facing-of _ _ c.place_at.ensures c.in-Token.is in
    let row = c.requires.row in
    let size = c.size-places.ensures in
    let next = row-token row _ c.loop-p.invariant.0 faces in
    let inside = matches-found _ _ _ _ c.matches.ensures (ap not c.if-not-matches.false) in
    spot_in _ _ _ _ _ (row-lent row size) (omega arith) (omega arith)

pub returns-in-Token : goal.returns-in-Token
returns-in-Token c =
    let faces = facing-of _ _ c.place_at.ensures c.in-Token.is in
    leading-token _ _ _ _ _ _ _ _ c.loop-p.invariant.2 _ c.size-places.ensures faces c.matches.ensures (ap not c.if-not-matches.false)
    c.cell-t.ensures c.union.ensures

pub overflow_mul-b : goal.overflow_mul-b
overflow_mul-b c =
    let faces = facing-of _ _ c.place_at.ensures c.in-Nonterminal.is in
    omega (arith, row_named c.requires.row _ faces)

pub read-s-requires : goal.read-s-requires
read-s-requires c =
    let faces = facing-of _ _ c.place_at.ensures c.in-Nonterminal.is in
    omega (arith, row_named c.requires.row _ faces)

pub through-t-requires : goal.through-t-requires
through-t-requires c =
    let faces = facing-of _ _ c.place_at.ensures c.in-Nonterminal.is in
    let row = c.requires.row in
    let size = c.size-places.ensures in
    let next = row-call row _ c.loop-p.invariant.0 faces in
    record { lent = row-lent row size; within = omega arith; ahead = row-ahead row size _ _ next (omega arith) }

pub has-requires : goal.has-requires
has-requires c = row-position c.requires.row

pub returns-then-not-has : goal.returns-then-not-has
returns-then-not-has c =
    let faces = facing-of _ _ c.place_at.ensures c.in-Nonterminal.is in
    let row = c.requires.row in
    leading-stops _ _ _ _ _ _ _ _ c.loop-p.invariant.2 _ _ c.size-places.ensures faces row.here (row-short row) c.read-s.ensures
    c.through-t.ensures c.union-r.ensures c.has.ensures (ap not c.if-not-has.true)

pub loop-p-preserved : goal.loop-p-preserved
loop-p-preserved c =
    let faces = facing-of _ _ c.place_at.ensures c.in-Nonterminal.is in
    let row = c.requires.row in (
      row-call row _ c.loop-p.invariant.0 faces,
      ap length c.union-r.ensures ∙ length_union _ _,
      leading-goes _ _ _ _ _ _ _ _ c.loop-p.invariant.2 _ _ c.size-places.ensures faces row.here (row-short row) c.read-s.ensures
          c.through-t.ensures c.union-r.ensures c.has.ensures (ap not c.if-not-has.false),
    )

pub returns : goal.returns
returns c = absurd (omega (arith, c.loop-p.invariant.0, row-places c.requires.row))
