-- `auditing::records::all_steps` meets its contract: the slots from s on decide as long as the steps of those before them are right.
use mathlib.Core.Path.{◌≡◌}
use Prim.Native.Nat.{◌-◌}
use lib.ListN.{length}
use Rattle.base.specs.Search.{all_from}
use Rattle.grammar.specs.inside.Tables.{grammar_in}
use Rattle.configurations.specs.inside.Packed.{member_words}
use Rattle.words.specs.Words.{held}
use Rattle.auditing.specs.Coherence.{steps?}
use Rattle.auditing.proofs.records.all_steps.Given as goal

abbrev pub invariant-loop-s : goal.invariant-loop-s
invariant-loop-s l =
    (all_from (steps? (grammar_in l.tables) l.cache) l.s (l.s-end - l.s) ≡ all_from (steps? (grammar_in l.tables) l.cache) 0 (held l.cache))
    × (length l.members ≡ member_words)
