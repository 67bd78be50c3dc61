-- Words that are the same, and the kinds that listed words have.
use mathlib.Core.Path.{◌≡◌, refl, sym, ap}
use mathlib.Core.Bool.{Bool, true, false, ◌&&◌, ◌||◌}
use mathlib.Core.List.{List, [], ◌∷◌, ◌++◌}
use Prim.Native.Nat.{ℕ, suc, ◌+◌, ◌-◌, ◌≤◌, ◌<◌}
use native.Mathlib.Omega.{arith}
use lib.Dec.{eqb, T, eqb→eq, eqb_refl}
use lib.ListN.{length, take, drop, length-drop}
use lib.Seq.{length-take-le}
use Rattle.base.proofs.Booleans.{and_T, T→true, true→T, or_assoc, or-none}
use Rattle.base.specs.Rounds.{any_of}
use Rattle.std.specs.Cmp.Lexicographic.{pointwise}
use Rattle.splitter.specs.Listing.{same_bytes?, among?}
use Rattle.splitter.specs.Items.{kind_from}

-- ---- the same bytes
pub same-eq : (u v : List ℕ) → T (same_bytes? u v) → u ≡ v
unfolding same_bytes?
same-eq [] [] t = refl
same-eq [] (c ∷ v) t = absurd t
same-eq (b ∷ u) [] t = absurd t
same-eq (b ∷ u) (c ∷ v) t =
    let (x, y) = and_T (eqb b c) (same_bytes? u v) t in
    let p : b ≡ c = eqb→eq b c x in
    let q : u ≡ v = same-eq u v y in
    cc

pub same_refl : (u : List ℕ) → same_bytes? u u ≡ true
unfolding same_bytes?
same_refl [] = refl
same_refl (b ∷ u) = rw (T→true (eqb b b) (eqb_refl b)) (same_refl u)

-- the library compares so
pub same_is : (u v : List ℕ) → pointwise eqb u v ≡ same_bytes? u v
unfolding same_bytes?
same_is [] [] = refl
same_is [] (c ∷ v) = refl
same_is (b ∷ u) [] = refl
same_is (b ∷ u) (c ∷ v) = ap (λ (x : Bool). eqb b c && x) (same_is u v)

pub same_length : (u v : List ℕ) → T (same_bytes? u v) → length u ≡ length v
same_length u v t = ap length (same-eq u v t)

pub not_same : (a b : List ℕ) (i j m n : ℕ) → m ≤ length a - i → n ≤ length b - j → (m ≡ n → ⊥) → false ≡ same_bytes? (take m (drop i a)) (take n (drop j b))
not_same a b i j m n h l e = go (same_bytes? (take m (drop i a)) (take n (drop j b))) refl
  where
    go : (x : Bool) → same_bytes? (take m (drop i a)) (take n (drop j b)) ≡ x → false ≡ x
    go false q = refl
    go true q =
        absurd
        (e
        (omega (
          arith,
          same_length (take m (drop i a)) (take n (drop j b)) (true→T (same_bytes? (take m (drop i a)) (take n (drop j b))) q),
          length-take-le m (drop i a) (omega (arith, length-drop i a)),
          length-take-le n (drop j b) (omega (arith, length-drop j b)),
        )))

-- ---- words among others, and their kinds
or-false : (a b : Bool) → (a || b) ≡ false → (a ≡ false) × (b ≡ false)
or-false true b e = absurd (true→T false (sym e))
or-false false b e = (refl, e)

pub among-snoc : (ws : List (List ℕ)) (v u : List ℕ) → among? (ws ++ (v ∷ [])) u ≡ (among? ws u || same_bytes? v u)
unfolding among? any_of
among-snoc [] v u = or-none (same_bytes? v u)
among-snoc (w ∷ ws) v u = rw (among-snoc ws v u) (sym (or_assoc (same_bytes? w u) (any_of (λ t. same_bytes? t u) ws) (same_bytes? v u)))

-- a word that is none of these has its kind from those behind them
pub kind-out : (k : ℕ) (ws ts : List (List ℕ)) (u : List ℕ) → among? ws u ≡ false → kind_from k (ws ++ ts) u ≡ kind_from (k + length ws) ts u
unfolding among? any_of kind_from
kind-out k [] ts u h = let z : k + 0 ≡ k = omega arith in rw z refl
kind-out k (w ∷ ws) ts u h =
    let (a, b) = or-false (same_bytes? w u) (any_of (λ t. same_bytes? t u) ws) h in
    let z : k + suc (length ws) ≡ suc k + length ws = omega arith in
    rw (a, kind_from, z) (kind-out (suc k) ws ts u b)

in_step : (k : ℕ) (w : List ℕ) (ws ts : List (List ℕ)) (u : List ℕ) (x : Bool) → same_bytes? w u ≡ x → among? (w ∷ ws) u ≡ true
    → (among? ws u ≡ true → kind_from (suc k) (ws ++ ts) u ≡ kind_from (suc k) ws u) → kind_from k ((w ∷ ws) ++ ts) u ≡ kind_from k (w ∷ ws) u
unfolding among? any_of kind_from
in_step k w ws ts u true e h r = rw (e, kind_from)
in_step k w ws ts u false e h r = rw (e, kind_from) (r (rw e at h))

-- a word that is one of these has its kind from them
pub kind-in : (k : ℕ) (ws ts : List (List ℕ)) (u : List ℕ) → among? ws u ≡ true → kind_from k (ws ++ ts) u ≡ kind_from k ws u
unfolding among? any_of
kind-in k [] ts u h = absurd (true→T false h)
kind-in k (w ∷ ws) ts u h = in_step k w ws ts u (same_bytes? w u) refl h (kind-in (suc k) ws ts u)

least_step : (k : ℕ) (w : List ℕ) (ws : List (List ℕ)) (u : List ℕ) (x : Bool) → same_bytes? w u ≡ x → among? (w ∷ ws) u ≡ true
    → (among? ws u ≡ true → suc k ≤ kind_from (suc k) ws u) → k ≤ kind_from k (w ∷ ws) u
unfolding among? any_of kind_from
least_step k w ws u true e h r = rw (e, kind_from) (omega arith)
least_step k w ws u false e h r = let z = r (rw e at h) in rw (e, kind_from) (omega arith)

-- a word that is one of these has no kind before theirs
pub kind-least : (k : ℕ) (ws : List (List ℕ)) (u : List ℕ) → among? ws u ≡ true → k ≤ kind_from k ws u
unfolding among? any_of
kind-least k [] u h = absurd (true→T false h)
kind-least k (w ∷ ws) u h = least_step k w ws u (same_bytes? w u) refl h (kind-least (suc k) ws u)

most_step : (k : ℕ) (w : List ℕ) (ws : List (List ℕ)) (u : List ℕ) (x : Bool) → same_bytes? w u ≡ x → kind_from (suc k) ws u < suc k + length ws
    → kind_from k (w ∷ ws) u < k + suc (length ws)
unfolding kind_from
most_step k w ws u true e r = rw (e, kind_from) (omega arith)
most_step k w ws u false e r = rw (e, kind_from) (omega arith)

-- no kind is behind theirs
pub kind-most : (k : ℕ) (ws : List (List ℕ)) (u : List ℕ) → 1 < k → kind_from k ws u < k + length ws
unfolding kind_from
kind-most k [] u h = omega arith
kind-most k (w ∷ ws) u h = most_step k w ws u (same_bytes? w u) refl (kind-most (suc k) ws u (omega arith))
