-- `lines::parse` meets its contract: the tokens put down and what is left of the line give what the whole line says (`ParsedSoFar`), and each way out is one
-- case of `line_of`.
use mathlib.Core.Path.{◌≡◌}
use Prim.Native.Nat.{◌≤◌}
use lib.ListN.{length}
use Rattle.lines.specs.Line.{max_line_tokens, max_token}
use Rattle.lines.proofs.LineLaws.{ParsedSoFar}
use Rattle.lines.proofs.parse.Given as goal

abbrev pub invariant-loop-byte : goal.invariant-loop-byte
invariant-loop-byte l =
    ParsedSoFar l.line l.note l.count l.digits l.value l.byte-index × (length l.note ≡ length l.initial.note)
    × (l.count ≤ max_line_tokens) × (l.value ≤ max_token)
