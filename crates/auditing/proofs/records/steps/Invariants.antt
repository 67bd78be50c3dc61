-- `auditing::records::steps` meets its contract: the steps over tokens from t on decide as long as those before them are right.
use mathlib.Core.Path.{◌≡◌}
use Prim.Native.Nat.{◌+◌, ◌-◌}
use lib.ListN.{length}
use Rattle.base.specs.Search.{all_from}
use Rattle.grammar.specs.inside.Tables.{grammar_in}
use Rattle.configurations.specs.inside.Packed.{member_words}
use Rattle.auditing.specs.Coherence.{step?, steps?}
use Rattle.auditing.proofs.records.steps.Given as goal

abbrev pub invariant-loop-t : goal.invariant-loop-t
invariant-loop-t l =
    (all_from (step? (grammar_in l.tables) l.cache l.s) l.t (l.t-end + 1 - l.t) ≡ steps? (grammar_in l.tables) l.cache l.s) × (length l.members ≡ member_words)
