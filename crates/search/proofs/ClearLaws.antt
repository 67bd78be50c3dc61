-- Words that are cleared. No pair is worked out where the sets of nonterminals are empty.
use mathlib.Core.Path.{◌≡◌, ◌∙◌}
use mathlib.Core.Bool.{false}
use mathlib.Core.List.{List, ◌++◌}
use Prim.Native.Nat.{ℕ, suc, ◌+◌, ◌-◌, ◌≤◌, ◌<◌}
use native.Mathlib.Omega.{arith}
use lib.Dec.{T}
use lib.ListN.{length, get_or, take, drop, replicate, length-take, length-drop, length-append, get_or-append}
use lib.Seq.{get_or-append_right}
use Rattle.std.proofs.lemmas.List.{length-replicate, get_or-replicate, get_or-drop}
use Rattle.base.specs.Bits.{test_bit}
use Rattle.base.proofs.Bits.{test-none}
use Rattle.base.proofs.Booleans.{¬T→false}
use Rattle.search.specs.inside.Words.{done_in, Kept}
use Rattle.search.proofs.WordLaws.{done-inside}

-- zeros in place of the words up to n
module _ (N n : ℕ) (ws : List ℕ) {front : List ℕ} (l : n < length ws) (e : front ≡ replicate (length (take (n + 1) ws)) 0) where
  abbrev us : List ℕ
  us = front ++ drop (n + 1) ws

  many : length (take (n + 1) ws) ≡ n + 1
  many = omega (arith, length-take (n + 1) ws)

  long : length front ≡ n + 1
  long = rw (e, length-replicate {A = ℕ} (length (take (n + 1) ws)) 0) many

  kept : Kept (suc n) ws us
  kept = record {
    long = omega (arith, length-append front (drop (n + 1) ws), length-drop (n + 1) ws, long);
    word = λ j h.
        let at : n + 1 + (j - length front) ≡ j = omega (arith, long) in
        get_or-append_right front (drop (n + 1) ws) j 0 (omega (arith, long)) ∙ rw at at (get_or-drop (n + 1) ws (j - length front) 0);
  }

  zero : (j : ℕ) → j ≤ n → get_or us j 0 ≡ 0
  zero j h =
      get_or-append front (drop (n + 1) ws) 0 j (omega (arith, long))
      ∙ rw e (get_or-replicate {A = ℕ} (length (take (n + 1) ws)) j 0 0 (omega (arith, many)))

  pub cleared : Kept (suc n) ws us × ((a i : ℕ) → done_in N n us a i ≡ false)
  cleared = (kept, λ a i. ¬T→false (done_in N n us a i) (none a i))
    where
      none : (a i : ℕ) → ¬ T (done_in N n us a i)
      none a i t =
          let d = done-inside N n us a i t in
          let b : T (test_bit 0 a) = rw (zero i d.1) at d.2 in
          rw test-none at b
