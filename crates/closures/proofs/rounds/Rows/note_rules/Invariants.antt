-- `closures::rounds::Rows::note_rules` meets its contract: the nonterminals below a are noted, at the start none, at the end all.
use mathlib.Core.Path.{◌≡◌}
use Prim.Native.Nat.{◌≤◌}
use lib.ListN.{length}
use Rattle.closures.specs.inside.Steps.{row_words, Noted}
use Rattle.closures.proofs.rounds.Rows.note_rules.Given as goal

abbrev pub invariant-loop-a : goal.invariant-loop-a
invariant-loop-a l =
    (l.self.count ≤ row_words) × (length l.self.needs ≡ row_words) × (length l.self.owners ≡ row_words)
    × Noted l.tokens l.tables l.from l.self.count l.a 0 l.self.needs l.self.owners
