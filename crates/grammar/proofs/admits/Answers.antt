-- `grammar::admits` meets its contract: today a token may stand where its own kind is called for, and nowhere else.
use mathlib.Core.Path.{refl}
use Rattle.grammar.specs.Grammar.{admits}
use Rattle.grammar.proofs.admits.Goals as goal

pub returns : goal.returns
unfolding admits
returns c = refl
