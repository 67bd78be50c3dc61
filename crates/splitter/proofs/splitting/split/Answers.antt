-- `splitter::splitting::split` meets its contract: 15, then 17, then what `split_by` answers.
use mathlib.Core.Bool.{not}
use mathlib.Core.Path.{refl, ap}
use native.Mathlib.Omega.{arith}
use Rattle.splitter.specs.Classes.{classes}
use borrow.Author.Tests.{not-true, not-false}
use Rattle.splitter.proofs.ListLaws.{listed-yes, listed-no}
use Rattle.splitter.proofs.SplitLaws.{answer-15, answer-17, answer-on}
use Rattle.splitter.proofs.splitting.split.Goals as goal

pub returns-then-line-gt-MAX_LINE : goal.returns-then-line-gt-MAX_LINE
returns-then-line-gt-MAX_LINE c = answer-15 _ _ _ c.if-line-gt-MAX_LINE.true

pub index-requires : goal.index-requires
unfolding classes
index-requires c = (c.none-listed.ensures.1, c.none-listed.ensures.2, c.none-listed.ensures.3, refl)

pub returns-then-not-index : goal.returns-then-not-index
returns-then-not-index c =
    answer-17 _ _ _ (omega arith) _ (listed-no _ _ (rw c.none-listed.ensures.0 at c.index.ensures) (not-true _ (ap not c.if-not-index.true))) refl

pub split_by-requires : goal.split_by-requires
unfolding classes
split_by-requires c = refl

pub returns : goal.returns
returns c =
    answer-on _ _ _ (omega arith) _ (listed-yes _ _ (rw c.none-listed.ensures.0 at c.index.ensures) (not-false _ (ap not c.if-not-index.false))) refl
    c.split_by.ensures
