-- `first_follow::marking::mark_kinds` meets its contract: the sets of the kinds below t are worked out, and a turn works out those of t.
use mathlib.Core.Path.{◌≡◌}
use lib.ListN.{length}
use Rattle.first_follow.specs.inside.Words.{mask_words}
use Rattle.first_follow.specs.inside.Steps.{Kinds}
use Rattle.first_follow.proofs.marking.mark_kinds.Given as goal

abbrev pub invariant-loop-t : goal.invariant-loop-t
invariant-loop-t l =
    (length l.masks ≡ mask_words)
    × Kinds (record { masks = l.initial.masks; above = l.above; before = l.before; last = l.last }) l.t l.masks
