-- The loop over the members of a set: from each of them on by one place.
use mathlib.Core.Path.{◌≡◌, sym, ap, ◌∙◌}
use mathlib.Core.Logic.{⊎_elim}
use mathlib.Core.Bool.{Bool, true, false, ◌||◌, ◌&&◌}
use mathlib.Core.Option.{some}
use mathlib.Core.List.{List}
use Prim.Native.Nat.{ℕ, suc, ◌+◌, ◌-◌, ◌≤◌, ◌<◌}
use native.Mathlib.Numerals.{add-one}
use native.Mathlib.Omega.{arith}
use native.Mathlib.Decide.{dec_lt}
use lib.Dec.{T}
use lib.ListN.{get_elem?}
use Rattle.base.specs.Rounds.{any_of, up_from}
use Rattle.base.proofs.Booleans.{false→¬T, true→T, same, and_T, T_and, or_assoc, or-none, or-T, T-or-l}
use Rattle.base.proofs.Lists.{any_of-T, T-any_of, get-up_from, up_from-get}
use Rattle.positions.specs.inside.Positions.{position_count, empty_set, member, union_of, NextOf, Full}
use Rattle.positions.specs.inside.Words.{set_at}
use Rattle.positions.proofs.SetLaws.{member-empty, member_union}
use Rattle.cells.specs.inside.Chart.{spot, cell_has}
use Rattle.cells.specs.inside.Through.{through_of, Through, Onward, Ahead}
use Rattle.cells.proofs.Spots.{cell-member}

-- ---- from the members of a set on by a place
module _ (S : ℕ → Bool) (C : ℕ → ℕ → ℕ → Bool) (q j from n : ℕ) where
  abbrev Passed : Type 0
  Passed = (m : ℕ) × (from ≤ m) × (m ≤ n) × T (S m) × T (C q m j)

  pub through-in : (m : ℕ) → from ≤ m → m ≤ n → T (S m) → T (C q m j) → T (through_of S C q j from n)
  unfolding through_of
  through-in m l h s c =
      T-any_of (λ m. S m && C q m j) (up_from from (suc n - from)) (m - from) (up_from-get (suc n - from) from m l (omega arith)) (T_and (S m) (C q m j) s c)

  pub through-out : T (through_of S C q j from n) → (m : ℕ) × (from ≤ m) × (m ≤ n) × T (S m) × T (C q m j)
  unfolding through_of
  through-out t = go (any_of-T (λ m. S m && C q m j) (up_from from (suc n - from)) t)
    where
      go : (k : ℕ) × (m : ℕ) × (get_elem? (up_from from (suc n - from)) k ≡ some m) × T (S m && C q m j) → Passed
      go (k, m, e, s) =
          let l = get-up_from (suc n - from) from k e in
          let h = and_T (S m) (C q m j) s in
          (m, l.0, omega arith, h.0, h.1)

-- the first position, and the others
pub through-first : (S : ℕ → Bool) (C : ℕ → ℕ → ℕ → Bool) (q j m n : ℕ) → m ≤ n
    → through_of S C q j m n ≡ ((S m && C q m j) || through_of S C q j (suc m) n)
unfolding through_of up_from any_of
through-first S C q j m n h = let e : suc n - m ≡ suc (suc n - suc m) = omega arith in rw e

-- nothing is left behind the last position
pub through-none : (S : ℕ → Bool) (C : ℕ → ℕ → ℕ → Bool) (q j m n : ℕ) → n < m → through_of S C q j m n ≡ false
unfolding through_of up_from any_of
through-none S C q j m n h = let e : suc n - m ≡ 0 = omega arith in rw e

-- two sets that agree from `from` up to n
pub through_same : (S S' : ℕ → Bool) (C : ℕ → ℕ → ℕ → Bool) (q j from n : ℕ) → ((m : ℕ) → m ≤ n → S m ≡ S' m)
    → through_of S C q j from n ≡ through_of S' C q j from n
through_same S S' C q j from n h = same (through_of S C q j from n) (through_of S' C q j from n) to back
  where
    to : T (through_of S C q j from n) → T (through_of S' C q j from n)
    to t = let (m, a, b, x, y) = through-out S C q j from n t in through-in S' C q j from n m a b (rw (h m b) at x) y

    back : T (through_of S' C q j from n) → T (through_of S C q j from n)
    back t = let (m, a, b, x, y) = through-out S' C q j from n t in through-in S C q j from n m a b (rw (h m b) x) y

-- the next member lies behind
pub next-behind : (s : List ℕ) (m m' : ℕ) → NextOf s (m + 1) m' → m < position_count → m < m'
next-behind s m m' x h = go (dec_lt m' position_count)
  where
    go : Dec (m' < position_count) → m < m'
    go (yes l) = let a = x.above l in omega arith
    go (no l) = omega arith

module _ (P : ℕ) (ws : List ℕ) (n : ℕ) (s : List ℕ) (q : ℕ) where
  abbrev on : ℕ → ℕ → Bool
  on j m = through_of (member s) (cell_has P ws) q j m n

  -- r is the set `begun` and what the members before m lead to
  pub GoingThrough : List ℕ → ℕ → ℕ → List ℕ → Type 0
  GoingThrough begun from m r = (j : ℕ) → j < position_count → (member r j || on j m) ≡ (member begun j || on j from)

  pub going-ends : (begun : List ℕ) (from m : ℕ) (r : List ℕ) → GoingThrough begun from m r → n < m → Onward P ws n s begun from q r
  unfolding GoingThrough Onward
  going-ends begun from m r inv h j l = rw (through-none (member s) (cell_has P ws) q j m n h, or-none) at (inv j l)

  module _ (short : n < position_count) where
    -- what stands before the next member is none
    skip : (from m j : ℕ) → NextOf s from m → on j from ≡ on j m
    skip from m j x = same (on j from) (on j m) to back
      where
        to : T (on j from) → T (on j m)
        to t =
            let (k, a, b, y, z) = through-out (member s) (cell_has P ws) q j from n t in
            through-in (member s) (cell_has P ws) q j m n k (least k a y (dec_lt k m)) b y z
          where
            least : (k : ℕ) → from ≤ k → T (member s k) → Dec (k < m) → m ≤ k
            least k a y (yes l) = absurd (false→¬T (member s k) (x.none k a l) y)
            least k a y (no l) = omega arith

        back : T (on j m) → T (on j from)
        back t =
            let (k, a, b, y, z) = through-out (member s) (cell_has P ws) q j m n t in
            let l = x.above (omega arith) in
            through-in (member s) (cell_has P ws) q j from n k (omega arith) b y z

    pub going-begins : (begun : List ℕ) (from m : ℕ) → NextOf s from m → GoingThrough begun from m begun
    unfolding GoingThrough
    going-begins begun from m x j l = ap (λ (b : Bool). member begun j || b) (sym (skip from m j x))

    pub going_on : (begun : List ℕ) (from m m' : ℕ) (r u : List ℕ) {r' : List ℕ} → GoingThrough begun from m r → m ≤ n → member s m ≡ true
        → u ≡ set_at ws (spot P q m) → r' ≡ union_of r u
        → NextOf s (m + 1) m' → GoingThrough begun from m' r'
    unfolding GoingThrough
    going_on begun from m m' r u {r'} inv h f e d x j l =
        let a : on j m ≡ (cell_has P ws q m j || on j (suc m)) = rw f at (through-first (member s) (cell_has P ws) q j m n h) in
        let b : on j (suc m) ≡ on j m' = skip (suc m) m' j (rw add-one at x) in
        let c : member r' j ≡ (member r j || cell_has P ws q m j) = rw (d, member_union r u j l, cell-member P ws q m j e l) in
        rw (c, or_assoc, ← b, ← a) (inv j l)

    -- ---- the ways out: no member; one; one that leads everywhere; more
    pub no_member : (from first : ℕ) {r : List ℕ} → NextOf s from first → n < first → r ≡ empty_set → Through P ws n s from q r
    unfolding Through
    no_member from first x h e j l =
        (ap (λ (r : List ℕ). member r j) e ∙ member-empty j) ∙ (sym (through-none (member s) (cell_has P ws) q j first n h) ∙ sym (skip from first j x))

    module _ (from first second : ℕ) {r : List ℕ} (x : NextOf s from first) (h : first ≤ n) (e : r ≡ set_at ws (spot P q first))
        (y : NextOf s (first + 1) second) where
      -- what the first member leads to, and the others
      first_then : (j : ℕ) → j < position_count → on j from ≡ (member r j || on j second)
      first_then j l =
          let a : on j first ≡ (cell_has P ws q first j || on j (suc first))
          = rw (x.found (omega arith)) at (through-first (member s) (cell_has P ws) q j first n h) in
          let b : on j (suc first) ≡ on j second = skip (suc first) second j (rw add-one at y) in
          skip from first j x ∙ (a ∙ rw (← cell-member P ws q first j e l, b))

      pub one-member : n < second → Through P ws n s from q r
      unfolding Through
      one-member k j l = sym (first_then j l
          ∙ (ap (λ (b : Bool). member r j || b) (through-none (member s) (cell_has P ws) q j second n k) ∙ or-none (member r j)))

      pub everywhere : {b : Bool} → Ahead P ws n from q → Full b r first n → b ≡ true → Through P ws n s from q r
      unfolding Through Ahead
      everywhere ahead f t j l = same (member r j) (on j from) to back
        where
          to : T (member r j) → T (on j from)
          to u = rw (first_then j l) (T-or-l (member r j) (on j second) u)

          behind : T (on j second) → T (member r j)
          behind u =
              let (k, a, b, v, z) = through-out (member s) (cell_has P ws) q j second n u in
              let c = next-behind s first second y (omega arith) in
              let d = x.above (omega arith) in
              let g = ahead k j (omega arith) b l z in
              true→T (member r j) (f.all t j (omega arith) g.1)

          back : T (on j from) → T (member r j)
          back u = ⊎_elim (λ v. v) behind (or-T (member r j) (on j second) (rw (first_then j l) at u))

      pub more-members : (r' : List ℕ) → Onward P ws n s r second q r' → Through P ws n s from q r'
      unfolding Through Onward
      more-members r' f j l = f j l ∙ sym (first_then j l)
