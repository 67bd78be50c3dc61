-- `closures::rounds::Rows::note_rule` meets its contract: a's first k productions are noted, and those of the nonterminals below stay noted, for no two
-- nonterminals share a word.
use mathlib.Core.Path.{◌≡◌}
use Prim.Native.Nat.{◌+◌, ◌≤◌}
use lib.ListN.{length}
use Rattle.closures.specs.inside.Steps.{row_words, Noted}
use Rattle.closures.proofs.rounds.Rows.note_rule.Given as goal

abbrev pub invariant-loop-k : goal.invariant-loop-k
invariant-loop-k l =
    (l.self.count ≤ row_words) × (l.start + length l.places ≤ row_words) × (length l.self.needs ≡ row_words) × (length l.self.owners ≡ row_words)
    × Noted l.tokens l.tables l.from l.self.count l.a (l.start + l.k) l.self.needs l.self.owners
