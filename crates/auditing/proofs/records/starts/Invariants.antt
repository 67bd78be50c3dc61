-- `auditing::records::starts` meets its contract: the starts from a on decide as long as those before them are right.
use mathlib.Core.Path.{◌≡◌}
use Prim.Native.Nat.{◌-◌}
use lib.ListN.{length}
use Rattle.base.specs.Search.{all_from}
use Rattle.grammar.specs.inside.Tables.{grammar_in}
use Rattle.configurations.specs.inside.Packed.{member_words}
use Rattle.grammar.specs.Limits.{max_nonterminals}
use Rattle.auditing.specs.Coherence.{start?}
use Rattle.auditing.proofs.records.starts.Given as goal

abbrev pub invariant-loop-a : goal.invariant-loop-a
invariant-loop-a l =
    (all_from (start? (grammar_in l.tables) l.cache) l.a (max_nonterminals - l.a) ≡ all_from (start? (grammar_in l.tables) l.cache) 0 max_nonterminals)
    × (length l.members ≡ member_words)
