-- What is kept with the bytes still to come gives the same in the end.
use Rattle.std.proofs.Common.{length, ◌≡◌, ◌≤◌, take, drop}
use Rattle.lines.specs.Headed.{headed, headed_after}
use Rattle.tokens.specs.Sizes.{max_list, max_kept_line}
use Rattle.tokens.proofs.feed.Given as goal

abbrev pub invariant-loop-byte : goal.invariant-loop-byte
invariant-loop-byte g l =
    (l.at.listed ≤ max_list) × (l.at.kept ≤ max_kept_line) × (length l.list ≡ max_list) × (length l.line ≡ max_kept_line)
    × (headed_after max_list max_kept_line (headed l.at.in_list (take l.at.listed l.list) (take l.at.kept l.line)) (drop l.byte-index l.bytes)
    ≡ headed_after max_list max_kept_line
    (headed l.initial.at.in_list (take l.initial.at.listed l.initial.list) (take l.initial.at.kept l.initial.line)) l.bytes)
