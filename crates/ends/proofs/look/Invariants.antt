-- `ends::look` meets its contract: the union over the productions is what they lead to, and it is put in the place of the set of a alone.
use lib.ListN.{drop}
use Rattle.cells.proofs.GatherLaws.{Gathering}
use Rattle.ends.specs.inside.Row.{leads_to}
use Rattle.ends.proofs.look.Given as goal

abbrev pub invariant-loop-f : goal.invariant-loop-f
invariant-loop-f l = Gathering (λ f j. leads_to l.tables l.note l.ws l.i l.ends j f) l.f-items (drop l.f-index l.f-items) l.r.words
