-- `auditing::layout::zeros` meets its contract: the words are joined, and their union is empty exactly if each of them is 0.
use borrow.Author.Tests.{tests}
use mathlib.Core.Path.{◌∙◌, ap}
use Prim.Native.Nat.{ℕ}
use lib.Bits.{bit_or}
use lib.Dec.{eqb}
use Rattle.std.proofs.Common.{rules}
use Rattle.std.proofs.lemmas.Iterator.{YieldsList-from_slice}
use Rattle.std.proofs.lemmas.Iterator.Consumers.{fold_from_yields_List}
use Rattle.auditing.proofs.LayoutSteps.{joined-is}
use Rattle.auditing.proofs.layout.zeros.Goals as goal

pub returns : goal.returns
returns c =
    ap (λ (n : ℕ). eqb n 0)
    (fold_from_yields_List _ bit_or 0 c.fold.result c.fold.ensures.ran (YieldsList-from_slice c.args.words.now cc) (λ a x b q k. search (rules, tests)))
    ∙ joined-is c.args.words.now 0
