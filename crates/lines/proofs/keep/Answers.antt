-- `lines::keep` meets its contract: where there is room the byte is stored behind those that are kept; where there is none, they stay as they are.
use native.Mathlib.Omega.{arith}
use Rattle.lines.proofs.KeptLaws.{kept_full, kept_more}
use Rattle.lines.proofs.keep.Goals as goal

pub returns-then-line-kept : goal.returns-then-line-kept
returns-then-line-kept c =
    record {
      line_after = kept_full c.args.line.now c.args.kept c.args.byte (omega arith) (omega arith);
      upper_bound = omega arith;
    }

pub returns : goal.returns
returns c =
    record {
      line_after = kept_more c.args.line.now c.args.kept c.args.byte (omega arith);
      upper_bound = omega arith;
    }
