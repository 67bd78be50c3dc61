-- `cells::ends_of` meets its contract: the union of the cells of the first places is made production by production.
use lib.ListN.{drop}
use Rattle.grammar.specs.inside.Tables.{grammar_in}
use Rattle.cells.specs.inside.Chart.{cell_has}
use Rattle.cells.proofs.GatherLaws.{Gathering}
use Rattle.cells.proofs.ends_of.Given as goal

abbrev pub invariant-loop-f : goal.invariant-loop-f
invariant-loop-f l =
    Gathering (λ f j. cell_has (grammar_in l.tables).size l.ws f l.i j) l.f-items (drop l.f-index l.f-items) l.r.words
