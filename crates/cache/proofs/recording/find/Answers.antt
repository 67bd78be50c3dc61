-- `cache::recording::find` meets its contract: the slots are looked at from the first on, so where one holds the state it is the lowest.
use borrow.Author.Tests.{tests}
use mathlib.Core.Path.{◌≡◌}
use mathlib.Core.Bool.{true, false}
use Prim.Native.Nat.{ℕ}
use Rattle.std.proofs.Common.{rules, arith}
use Rattle.std.proofs.lemmas.Iterator.{serves_from_Range, first_from_Range}
use Rattle.cache.specs.inside.ByWords.{holds_words}
use Rattle.cache.proofs.StateSteps.{searched-low, found-slot}
use Rattle.cache.proofs.recording.find.Goals as goal

pub find-requires-clause-callable : goal.find-requires-clause-callable
find-requires-clause-callable c = serves_from_Range (λ x q k. search rules)
    (λ x l m y e _ _ _ _ _ _ _ _ _ _. searched-low c.args.cache.now c.searched.ensures y.now (omega arith))

pub returns : goal.returns
returns c =
    let p = holds_words c.args.cache.now c.args.a c.args.kept.now in
    let Yes : ℕ → Type 0 = λ s. p s ≡ true in
    let No : ℕ → Type 0 = λ s. p s ≡ false in
    found-slot c.args.cache.now c.args.a c.args.kept.now c.searched.ensures
    (first_from_Range _ _ _ c.find.result Yes No c.find.ensures.ran (λ x q k. search (rules, tests)) (λ x q k. search (rules, tests)))
