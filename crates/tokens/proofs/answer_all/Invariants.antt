-- What is kept of the list's line and of the open line behind it fits into the arrays.
use Rattle.std.proofs.Common.{◌≤◌}
use Rattle.tokens.specs.Sizes.{max_list, max_kept_line}
use Rattle.tokens.proofs.answer_all.Given as goal

abbrev pub invariant-loop : goal.invariant-loop
invariant-loop g l = (l.at.listed ≤ max_list) × (l.at.kept ≤ max_kept_line)
