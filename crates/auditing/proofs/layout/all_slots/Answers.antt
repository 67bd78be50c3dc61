-- `auditing::layout::all_slots` meets its contract: the slots are asked one after another.
use borrow.Author.Tests.{tests}
use mathlib.Core.Path.{refl, ◌∙◌}
use native.Mathlib.Omega.{arith}
use Prim.Native.Nat.{ℕ}
use mathlib.Core.Bool.{Bool}
use Rattle.std.proofs.Common.{rules}
use Rattle.std.proofs.lemmas.Iterator.{YieldsList-from_range}
use Rattle.std.proofs.lemmas.Iterator.Search.{all_from_yields_List}
use Rattle.grammar.specs.inside.Tables.{grammar_in}
use Rattle.auditing.specs.Coherence.{slot?}
use Rattle.auditing.proofs.LayoutSteps.{all-range}
use Rattle.auditing.proofs.layout.all_slots.Goals as goal

pub returns : goal.returns
returns c =
    let P : ℕ → Bool = slot? (grammar_in c.args.tables.now) c.args.cache.now in
    all_from_yields_List P _ _ c.all.result c.all.ensures.ran (YieldsList-from_range 0 c.args.held c.args.held refl (omega arith))
    (λ x b q k. search (rules, tests))
    ∙ all-range P 0 c.args.held
