-- `splitter::runs::number_end` meets its contract: each way out is one case of what may follow the digits.
use native.Mathlib.Omega.{arith}
use mathlib.Core.Path.{refl}
use Rattle.splitter.proofs.RunLaws.{number-last, number-point-last, number-other, number-no-digit, number-fraction}
use Rattle.splitter.proofs.runs.number_end.Goals as goal

pub returns-then-n-end : goal.returns-then-n-end
returns-then-n-end c = number-last _ _ _ c.digits_end-end.ensures c.if-n-end.true

pub returns-then-s-end-ne-POINT : goal.returns-then-s-end-ne-POINT
returns-then-s-end-ne-POINT c = number-other _ _ _ c.digits_end-end.ensures (omega arith) refl c.if-s-end-ne-POINT.true

pub returns-then-n-behind : goal.returns-then-n-behind
returns-then-n-behind c = number-point-last _ _ _ c.digits_end-end.ensures (omega arith) refl refl c.if-n-behind.true

pub returns-then-class-ne-DIGIT : goal.returns-then-class-ne-DIGIT
returns-then-class-ne-DIGIT c =
    number-no-digit _ _ _ c.digits_end-end.ensures (omega arith) refl refl (omega arith) refl c.class.ensures c.if-class-ne-DIGIT.true

pub returns : goal.returns
returns c =
    number-fraction _ _ _ c.digits_end-end.ensures (omega arith) refl refl (omega arith) refl c.class.ensures c.if-s-end-ne-POINT.false
    c.if-class-ne-DIGIT.false
    c.digits_end.ensures
