-- `machine::ending::is_sentence` meets its contract: the note is a sentence exactly if some alternative of nonterminal 0 can end at the note's end.
use borrow.Author.Tests.{tests}
use mathlib.Core.Path.{refl, ◌∙◌}
use native.Mathlib.Omega.{arith}
use lib.ListN.{length}
use Rattle.std.proofs.Common.{rules}
use Rattle.machine.proofs.CallLaws.{lent_at}
use Rattle.machine.proofs.EndingLaws.{sentence-is}
use Rattle.machine.proofs.WaitLaws.{some-named}
use Rattle.machine.proofs.ending.is_sentence.Goals as goal

pub with-s-requires : goal.with-s-requires
with-s-requires c = omega (arith, c.requires.lent.short)

pub lowest-requires : goal.lowest-requires
lowest-requires c =
    let lent = lent_at (length c.args.note.now) 0 refl c.requires.lent (omega arith) in
    record { ready = c.requires.ready; lent = lent; named = some-named _ c.requires.ready }

pub returns : goal.returns
returns c =
    let e =
    c.is_some.ensures
    ∙ sentence-is _ _ _ (λ k. (c.shared_slice_known-3-1.given k).fits) c.requires c.empty.ensures c.with-s.ensures _ c.lowest.ensures in
    search (rules, tests)
