-- The goals of `closures::closure::derivers` that are not found.
use mathlib.Core.Path.{sym, ◌∙◌}
use Rattle.grammar.proofs.WordLaws.{length-starts-in}
use Rattle.closures.proofs.ClosureSteps.{to-judge, turned-away, settled, closure-full}
use Rattle.closures.proofs.closure.derivers.Goals as goal

pub pass-next-requires-clause-candidates : goal.pass-next-requires-clause-candidates
pass-next-requires-clause-candidates g c = to-judge _ _ _ _ _ c.requires.begins _ _ c.loop.invariant.1 c.opposite.ensures

pub pass-next-requires-clause-turned_away : goal.pass-next-requires-clause-turned_away
pass-next-requires-clause-turned_away g c = turned-away _ _ _ _ _ c.requires.begins _ _ c.loop.invariant.1 c.opposite.ensures

pub returns-then-next-set : goal.returns-then-next-set
returns-then-next-set g c =
    settled _ _ _ _ _ c.requires.begins _ _ c.loop.invariant.1 c.opposite.ensures c.loop.invariant.0 c.pass-next.ensures c.if-next-set.true

pub returns-then-next-all : goal.returns-then-next-all
returns-then-next-all g c =
    closure-full _ _ _ _ (length-starts-in _ ∙ sym c.nonterminals.ensures) (c.pass-next.ensures.derives c.loop.invariant.0)
    (c.if-next-all.true ∙ c.below-all.ensures)

pub loop-preserved : goal.loop-preserved
loop-preserved g c =
    let passed = c.pass-next.ensures in
    (passed.derives c.loop.invariant.0, λ a t. passed.kept a (c.loop.invariant.1 a t))
