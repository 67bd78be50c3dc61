-- `splitter::runs::word_run` meets its contract: what is left of the row gives the same end and bucket.
use mathlib.Core.Path.{◌≡◌}
use Prim.Native.Nat.{◌+◌, ◌<◌}
use lib.ListN.{drop}
use Rattle.splitter.specs.inside.Index.{buckets, run_from, run_of}
use Rattle.splitter.proofs.runs.word_run.Given as goal

abbrev pub invariant-loop-b : goal.invariant-loop-b
invariant-loop-b l =
    (run_from l.run.end l.run.bucket (drop l.b-index l.b-items) ≡ run_of l.s l.from) × (l.run.bucket < buckets) × (l.run.end ≡ l.from + l.b-index)
