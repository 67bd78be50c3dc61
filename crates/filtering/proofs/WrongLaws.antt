-- D2: where a note that is no sentence goes wrong is as far as the search came, and not behind the note's end.
use mathlib.Core.Path.{◌≡◌, sym}
use mathlib.Core.Logic.{◌↔◌, inl, inr}
use mathlib.Core.Bool.{Bool}
use mathlib.Core.Option.{some}
use mathlib.Core.List.{List}
use Prim.Native.Nat.{ℕ, ◌≤◌, ◌<◌, min}
use native.Mathlib.Omega.{arith}
use native.Mathlib.Decide.{dec_lt}
use lib.ListN.{length}
use Rattle.grammar.specs.Grammar.{Grammar, first}
use Rattle.grammar.specs.inside.Ordered.{Ordered}
use Rattle.derivation.specs.Runs.{marked}
use Rattle.derivation.specs.inside.Reach.{start, Arrives}
use Rattle.derivation.specs.ReachRounds.{arrives?, highest_to, wrong_place}
use Rattle.derivation.proofs.MarkedCells.{get-note}
use Rattle.derivation.proofs.ReachLaws.{reach-alike}
use Rattle.derivation.proofs.Stretches.{Alike}
use Rattle.derivation.proofs.WrongPlace.{arrives-iff, Highest, highest-is}
use Rattle.first_follow.specs.inside.Masks.{Masks, Closed}
use Rattle.filtering.specs.inside.Cover.{Asked, Covered}
use Rattle.filtering.specs.inside.Settling.{Came}
use Rattle.filtering.proofs.CoverLaws.{reach-found}
use Rattle.filtering.proofs.WalkLaws.{reach-before}

-- two numbers that are both the highest are the same
highest-least : (p : ℕ → Bool) (n k m : ℕ) → Highest p n k → Highest p n m → ¬ (k < m)
highest-least p n k m (l, t, h) (l', t', h') q = h m q l' t'

highest-unique : (p : ℕ → Bool) (n k m : ℕ) → Highest p n k → Highest p n m → k ≡ m
highest-unique p n k m x y = go (dec_lt k m) (dec_lt m k)
  where
    go : Dec (k < m) → Dec (m < k) → k ≡ m
    go (yes l) h = absurd (highest-least p n k m x y l)
    go (no l) (yes h) = absurd (highest-least p n m k y x h)
    go (no l) (no h) = omega arith

-- ---- a note and the same note with its mark reach the same within the note
module _ (g : Grammar) (w : List ℕ) where
  marked-alike : Alike w (marked w) (length w)
  marked-alike i l = sym (get-note w i l)

  arrives-marked : (k : ℕ) → k ≤ length w → Arrives g w k ↔ Arrives g (marked w) k
  arrives-marked k l =
      (λ h. (h.0, reach-alike h.1 (length w) l marked-alike), λ h. (h.0, reach-alike h.1 (length w) l (λ i m. get-note w i m)))

module _ {g : Grammar} {M : Masks} (w : List ℕ) (order : Ordered g) (c : Closed g M) (done : ℕ → ℕ → Bool) (high : ℕ)
    (cover : Covered g M (marked w) done high) (asked : Asked M (marked w) done 0 0)
    (came : Came g (marked w) high) (b : ℕ) {f : ℕ} (e : first g 0 b ≡ some f) where
  arrives-high : Came g (marked w) high → (k : ℕ) → k ≤ high → k ≤ length w → Arrives g w k
  arrives-high (inl q) k l h = let z : 0 ≡ k = omega arith in (f, rw (← z) (start b e))
  arrives-high (inr (p, x)) k l h = (arrives-marked g w k h).1 (reach-before x k l)

  never : (k : ℕ) → min high (length w) < k → k ≤ length w → ¬ Arrives g w k
  never k l h (p, x) = let z = (reach-found order c done high cover asked ((arrives-marked g w k h).0 (p, x)).1).0 in omega arith

  pub place-right : wrong_place g w ≡ min high (length w)
  unfolding wrong_place
  place-right =
      highest-unique (arrives? g w) (length w) (highest_to (arrives? g w) (length w)) (min high (length w))
      (highest-is (arrives? g w) (length w) ((arrives-iff g w 0).1 (f, start b e))) (
        omega arith,
        (arrives-iff g w (min high (length w))).1 (arrives-high came (min high (length w)) (omega arith) (omega arith)),
        λ k l h t. never k l h ((arrives-iff g w k).0 t),
      )
