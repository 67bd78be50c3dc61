-- `ends::settle` meets its contract: a look at a nonterminal changes nothing that those judged before it rest on, so that all stay closed, and sets
-- that are sound and closed are right.
use mathlib.Core.Path.{◌≡◌}
use lib.ListN.{length}
use Rattle.ends.specs.inside.Ends.{end_words}
use Rattle.ends.specs.inside.Judged.{Judged}
use Rattle.ends.proofs.settle.Given as goal

abbrev pub invariant-loop-a : goal.invariant-loop-a
invariant-loop-a l = (length l.ends ≡ end_words) × Judged l.tables l.note l.ws l.i l.order l.a-index l.ends
