-- `machine::steps::first` meets its contract: the first places of a nonterminal's alternatives stand side by side in the tables.
use native.Mathlib.Omega.{arith}
use Rattle.machine.proofs.AlternativeLaws.{named-below, named_some, named-within, named_in, first-is}
use Rattle.machine.proofs.steps.first.Goals as goal

pub rule_at-start-requires : goal.rule_at-start-requires
rule_at-start-requires c =
    let a = c.args in
    (omega (arith, named-below _ c.requires.0 a.a a.b c.requires.1, c.requires.0.fits.few), c.requires.0.fits.long)

pub overflow_add-start : goal.overflow_add-start
overflow_add-start c =
    let a = c.args in
    omega (
      arith,
      c.rule_at-start.ensures,
      named-within _ c.requires.0 a.a a.b c.requires.1,
      named_in _ c.requires.0 a.a a.b c.requires.1,
    )

pub overflow_sub-start : goal.overflow_sub-start
overflow_sub-start c = let a = c.args in omega (arith, named_some _ c.requires.0 a.a a.b c.requires.1)

pub first_place-requires : goal.first_place-requires
first_place-requires c =
    let a = c.args in (
      omega (
        arith,
        c.rule_at-start.ensures,
        named_some _ c.requires.0 a.a a.b c.requires.1,
        named-within _ c.requires.0 a.a a.b c.requires.1,
        named_in _ c.requires.0 a.a a.b c.requires.1,
      ),
      c.requires.0.fits.long,
    )

pub returns : goal.returns
returns c = let a = c.args in first-is _ c.requires.0 a.a a.b c.requires.1 c.rule_at-start.ensures c.first_place.ensures
