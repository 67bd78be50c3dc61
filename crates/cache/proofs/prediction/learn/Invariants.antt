-- `cache::prediction::learn` meets its contract: each turn of the loop asks one step more of what is followed, so what is said last, over the tokens
-- that are left, leads to the same end as the start over all of them.
use mathlib.Core.Path.{◌≡◌}
use Prim.Native.Nat.{suc, ◌-◌, ◌≤◌}
use lib.ListN.{length, drop}
use Rattle.grammar.specs.inside.Tables.{grammar_in}
use Rattle.derivation.specs.Runs.{marked}
use Rattle.words.specs.Layout as layout
use Rattle.cache.specs.Recording.{learned}
use Rattle.cache.specs.Predict.{predict_from}
use Rattle.cache.proofs.PredictSteps.{Asking}
use Rattle.cache.proofs.prediction.learn.Given as goal

abbrev pub invariant-loop-s : goal.invariant-loop-s
invariant-loop-s l =
    Asking (grammar_in l.tables) l.a l.note (predict_from (grammar_in l.tables) l.a (drop l.i (marked l.note)) (learned l.initial.said l.initial.cache)) l.j
    l.said l.cache
    × (l.j ≤ suc l.n) × (l.slots ≡ layout.slots (length l.cache)) × (length l.cache ≡ length l.initial.cache)

abbrev pub decreases-loop-s : goal.decreases-loop-s
decreases-loop-s l = suc l.n - l.j
