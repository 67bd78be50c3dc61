-- `opening::empties::within` meets its contract: each way out is what `passes` says of the symbol alone.
use mathlib.Core.Path.{refl, sym, ◌∙◌}
use Rattle.base.proofs.Booleans.{and-all}
use Rattle.closures.specs.Closures.{passes}
use Rattle.opening.proofs.empties.within.Goals as goal

pub has-requires : goal.has-requires
has-requires c = rw c.in-Nonterminal.is at c.requires

pub returns-in-Nonterminal : goal.returns-in-Nonterminal
unfolding passes
returns-in-Nonterminal c = rw c.in-Nonterminal.is (c.has.ensures ∙ sym (and-all _))

pub returns-in-Token : goal.returns-in-Token
unfolding passes
returns-in-Token c = rw c.in-Token.is refl

pub returns-in-End : goal.returns-in-End
unfolding passes
returns-in-End c = rw c.in-End.is refl
