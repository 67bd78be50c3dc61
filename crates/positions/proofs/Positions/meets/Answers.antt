-- `positions::Positions::meets` meets its contract: each word is read where the array has it, and the code computes the same Boolean as `meets_of`.
use mathlib.Core.Path.{refl}
use Rattle.positions.specs.inside.Positions.{meets_of}
use Rattle.positions.proofs.Positions.meets.Goals as goal

pub returns : goal.returns
unfolding meets_of
returns c = refl
