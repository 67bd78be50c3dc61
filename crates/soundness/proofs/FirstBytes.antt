-- A grammar is complete, or refused, within its first bytes: what lies behind them does not change the verdict, nor its place.
use mathlib.Core.Path.{◌≡◌, ap}
use mathlib.Core.List.{List}
use Prim.Native.Nat.{ℕ, ◌≤◌}
use lib.ListN.{take}
use Rattle.grammar.proofs.ByteLaws.{looked, decode-first}
use Rattle.soundness.specs.Check.{on_decoded, check_of}

pub check-first : (n : ℕ) → looked ≤ n → (s : List ℕ) → check_of (take n s) ≡ check_of s
unfolding check_of
check-first n h s = ap on_decoded (decode-first n h s)
