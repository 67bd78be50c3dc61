-- D2, the lower half: what the search comes to, the note reaches; and how the walks of a pair are covered, symbol by symbol.
use mathlib.Core.Path.{◌≡◌, refl}
use mathlib.Core.Logic.{◌⊎◌, inl, inr}
use mathlib.Core.Bool.{Bool}
use mathlib.Core.Option.{some}
use mathlib.Core.List.{List}
use Prim.Native.Nat.{ℕ, suc, ◌≤◌}
use native.Mathlib.Omega.{arith}
use native.Mathlib.Decide.{dec_le}
use lib.Dec.{T}
use Rattle.base.proofs.Booleans.{clash}
use Rattle.grammar.specs.declared.Symbol.TheVariants.{Token, Nonterminal, End}
use Rattle.grammar.specs.Grammar.{Grammar, facing, admits, first}
use Rattle.derivation.specs.inside.Reach.{Reach, start, match, call, return, Arrives}
use Rattle.derivation.proofs.ReachLaws.{on-the-way}
use Rattle.first_follow.specs.inside.Masks.{Masks}
use Rattle.filtering.specs.inside.Beginnings.{token_at}
use Rattle.filtering.specs.inside.Filtered.{DerF, PairEnds, Over}
use Rattle.filtering.specs.inside.Cover.{Walks, here, on, Asked, CoveredFrom, Covered, Called}
use Rattle.filtering.proofs.StartLaws.{admits-at}
use Rattle.filtering.proofs.FilterLaws.{der_f-der}

-- ---- reached
-- the first place of each production of a called nonterminal
pub called-first : {g : Grammar} {w : List ℕ} {a i f : ℕ} (b : ℕ) → Called g w a i → first g a b ≡ some f → Reach g w f i
called-first b Called.begins d = start b d
called-first b (Called.behind x e) d = call b x e d

module _ {g : Grammar} {M : Masks} {w : List ℕ} where
  over-reach : {p i m : ℕ} → Reach g w p i → Over g M w p i m → Reach g w (suc p) m
  over-reach x (Over.token e d t) = match x e d t
  over-reach x (Over.call e (b, (f, d, (r, y), h))) = return b x e d (der_f-der y)

  pub walks-reach : {f i q k : ℕ} → Reach g w f i → Walks g M w f i q k → Reach g w q k
  walks-reach x here = x
  walks-reach x (on v o) = over-reach (walks-reach x v) o

  -- what a walk of a called pair meets is called
  pub walks-called : {a i f q k n : ℕ} (b : ℕ) → Called g w a i → first g a b ≡ some f → Walks g M w f i q k → facing g q ≡ Nonterminal n → Called g w n k
  walks-called b x d v e = Called.behind (walks-reach (called-first b x d) v) e

-- something is reached at every position up to one that is reached
pub reach-before : {g : Grammar} {w : List ℕ} {p i : ℕ} → Reach g w p i → (k : ℕ) → k ≤ i → Arrives g w k
reach-before {g} {w} (start {f = f} b e) k l = let z : 0 ≡ k = omega arith in (f, rw (← z) (start b e))
reach-before {g} {w} (match {p = p} {i = i} x e d t) k l = go (dec_le k i) (λ h. reach-before x k h)
  where
    go : Dec (k ≤ i) → (k ≤ i → Arrives g w k) → Arrives g w k
    go (yes h) rec = rec h
    go (no h) rec = let z : suc i ≡ k = omega arith in (suc p, rw (← z) (match x e d t))
reach-before (call b x e d) k l = reach-before x k l
reach-before {g} {w} (return {i = i} b x e d z) k l = go (dec_le k i) (λ h. reach-before x k h)
  where
    go : Dec (k ≤ i) → (k ≤ i → Arrives g w k) → Arrives g w k
    go (yes h) rec = rec h
    go (no h) rec = on-the-way z (call b x e d) k (omega arith) l

-- ---- covered, symbol by symbol
module _ {g : Grammar} {M : Masks} {w : List ℕ} where
  -- a walk goes nowhere, or over the first symbol
  walks-first : {p i q k : ℕ} → Walks g M w p i q k → ((q ≡ p) × (k ≡ i)) ⊎ ((m : ℕ) × Over g M w p i m × Walks g M w (suc p) m q k)
  walks-first here = inl (refl, refl)
  walks-first {p} {i} (on {p = q} {j = j} {m = k} v o) = go (walks-first v)
    where
      go : ((q ≡ p) × (j ≡ i)) ⊎ ((m : ℕ) × Over g M w p i m × Walks g M w (suc p) m q j)
          → ((suc q ≡ p) × (k ≡ i)) ⊎ ((m : ℕ) × Over g M w p i m × Walks g M w (suc p) m (suc q) k)
      go (inl (y, z)) = let h : Over g M w p i k = rw (y, z) at o in inr (k, h, rw y here)
      go (inr (m, h, u)) = inr (m, h, on u o)

  -- a walk over the first symbol, and one from there on
  walks-then : {p i m q k : ℕ} → Over g M w p i m → Walks g M w (suc p) m q k → Walks g M w p i q k
  walks-then o here = on here o
  walks-then o (on v o') = on (walks-then o v) o'

  -- an end is where a walk comes to the production's end
  ends-walk : {p i j : ℕ} {r : List ℕ} → DerF g M w p i j r → (q : ℕ) × Walks g M w p i q j × (facing g q ≡ End)
  ends-walk (DerF.finish {p = p} e l) = (p, here, e)
  ends-walk (DerF.match e d t x) = let (q, v, z) = ends-walk x in (q, walks-then (Over.token e d t) v, z)
  ends-walk (DerF.expand {b = b} {f = f} {r = r} e d x h y) =
      let (q, v, z) = ends-walk y in (q, walks-then (Over.call e (b, (f, d, (r, x), h))) v, z)

  -- so no end of a covered pair is behind: the ends of a pair that is done need not be looked at again
  pub ends-high : {done : ℕ → ℕ → Bool} {high : ℕ} (a i m : ℕ) → Covered g M w done high → T (done a i) → PairEnds g M w a i m → m ≤ high
  ends-high a i m cover t (b, (f, d, (r, x), h)) = let (q, v, z) = ends-walk x in (cover a i b f t d).within q m v

  module _ (done : ℕ → ℕ → Bool) (high : ℕ) where
    -- one symbol: the position, what is asked there, and all positions that it leads to
    pub covered-over : {p i : ℕ} → i ≤ high → ((c : ℕ) → facing g p ≡ Nonterminal c → Asked M w done c i)
        → ((m : ℕ) → Over g M w p i m → CoveredFrom g M w done high (suc p) m) → CoveredFrom g M w done high p i
    covered-over {p} {i} l a rest = record {
      within = λ q k v. near (walks-first v);
      asked = λ q k n v e. ask e (walks-first v);
    }
      where
        near : {q k : ℕ} → ((q ≡ p) × (k ≡ i)) ⊎ ((m : ℕ) × Over g M w p i m × Walks g M w (suc p) m q k) → k ≤ high
        near (inl (y, z)) = omega arith
        near {q} {k} (inr (m, o, v)) = (rest m o).within q k v

        ask : {q k n : ℕ} → facing g q ≡ Nonterminal n → ((q ≡ p) × (k ≡ i)) ⊎ ((m : ℕ) × Over g M w p i m × Walks g M w (suc p) m q k) → Asked M w done n k
        ask {q} {k} {n} e (inl (y, z)) = rw z (a n (rw y at e))
        ask {q} {k} {n} e (inr (m, o, v)) = (rest m o).asked q k n v e

    -- the end of a production, a token that may not stand there, a pair with no end: nothing more
    pub covered-end : {p i : ℕ} → i ≤ high → facing g p ≡ End → CoveredFrom g M w done high p i
    covered-end {p} {i} l e = covered-over l (λ n d. clash (cc)) none
      where
        none : (m : ℕ) → Over g M w p i m → CoveredFrom g M w done high (suc p) m
        none m (Over.token d h t) = clash (cc)
        none m (Over.call d h) = clash (cc)

    pub covered-token : {p i k : ℕ} → i ≤ high → facing g p ≡ Token k → CoveredFrom g M w done high (suc p) (suc i) → CoveredFrom g M w done high p i
    covered-token {p} {i} {k} l e x = covered-over l (λ n d. clash (cc)) (λ m o. next o)
      where
        next : {m : ℕ} → Over g M w p i m → CoveredFrom g M w done high (suc p) m
        next (Over.token d h t) = x
        next (Over.call d h) = clash (cc)

    pub covered-other : {p i k : ℕ} → i ≤ high → facing g p ≡ Token k → ¬ T (admits g k (token_at w i)) → CoveredFrom g M w done high p i
    covered-other {p} {i} {k} l e n = covered-over l (λ n d. clash (cc)) (λ m o. next o)
      where
        next : {m : ℕ} → Over g M w p i m → CoveredFrom g M w done high (suc p) m
        next (Over.token {k = k'} d h t) =
            let z : k' ≡ k = cc in absurd (n (admits-at g w i k h (rw z at t)))
        next (Over.call d h) = clash (cc)

    pub covered-call : {p i : ℕ} (a : ℕ) → i ≤ high → facing g p ≡ Nonterminal a → Asked M w done a i
        → ((m : ℕ) → PairEnds g M w a i m → CoveredFrom g M w done high (suc p) m) → CoveredFrom g M w done high p i
    covered-call {p} {i} a l e h rest = covered-over l (λ n d. let z : n ≡ a = cc in rw z h) (λ m o. next o)
      where
        next : {m : ℕ} → Over g M w p i m → CoveredFrom g M w done high (suc p) m
        next (Over.token d h t) = clash (cc)
        next {m} (Over.call {a = a'} d h) = let z : a' ≡ a = cc in rest m (rw z at h)

  -- a higher mark and more pairs cover as well
  pub covered_more : {done done' : ℕ → ℕ → Bool} {high high' f i : ℕ} → ((a k : ℕ) → T (done a k) → T (done' a k)) → high ≤ high'
      → CoveredFrom g M w done high f i → CoveredFrom g M w done' high' f i
  covered_more {done} {done'} {high} {high'} {f} {i} h l x = record {
    within = λ q k v. let z = x.within q k v in omega arith;
    asked = λ q k c v e. still c k (x.asked q k c v e);
  }
    where
      still : (c k : ℕ) → Asked M w done c k → Asked M w done' c k
      still c k (inl t) = inl (h c k t)
      still c k (inr n) = inr n
