-- What is kept with the bytes still to come gives the same in the end, and each byte leaves no more than max_kept_bytes bytes kept.
use Rattle.std.proofs.Common.{length, ◌≡◌, ◌≤◌, take, drop}
use Rattle.lines.specs.Line.{max_kept_bytes}
use Rattle.lines.specs.Kept.{kept_after}
use Rattle.notes.proofs.feed.Given as goal

abbrev pub invariant-loop-byte : goal.invariant-loop-byte
invariant-loop-byte g l =
    (l.k ≤ max_kept_bytes) × (length l.line ≡ max_kept_bytes)
    × (kept_after max_kept_bytes (take l.k l.line) (drop l.byte-index l.bytes) ≡ kept_after max_kept_bytes (take l.kept l.initial.line) l.bytes)
