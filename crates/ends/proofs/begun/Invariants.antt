-- `ends::begun` meets its contract: what the places up to p lead to, with what the rest of the production leads to, is what all of it leads to; at a
-- token, at the end and behind a nonterminal that does not vanish here the rest adds nothing.
use mathlib.Core.Path.{◌≡◌}
use Prim.Native.Nat.{◌<◌}
use lib.ListN.{length}
use Rattle.grammar.specs.inside.Tables.{grammar_in}
use Rattle.positions.specs.inside.Positions.{set_words}
use Rattle.ends.proofs.BegunLaws.{Leading}
use Rattle.ends.proofs.begun.Given as goal

abbrev pub invariant-loop-p : goal.invariant-loop-p
invariant-loop-p l =
    (l.p < (grammar_in l.tables).size) × (length l.r.words ≡ set_words)
    × Leading l.tables l.note l.ws l.i l.ends l.f l.p l.r.words
