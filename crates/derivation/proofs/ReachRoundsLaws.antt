-- The rounds find exactly the places that a note reaches, whatever the grammar value and the note; and whatever is sound and closed under a round is
-- what they find.
use mathlib.Core.Path.{◌≡◌, refl, ap, ◌∙◌}
use mathlib.Core.Logic.{◌↔◌, ◌⊎◌, inl, inr}
use mathlib.Core.Bool.{Bool, ◌&&◌}
use mathlib.Core.List.Memᴰ
use mathlib.Core.List.{List, [], ◌∷◌, ◌++◌, Memᴰ}
use Prim.Native.Nat.{ℕ, zero, suc, ◌*◌, ◌≤◌, ◌<◌}
use native.Mathlib.Nat.{add_comm, suc-mul}
use native.Mathlib.Omega.{arith}
use native.Mathlib.Decide.{dec_le, dec_lt}
use lib.Dec.{T, leb, ltb, leb→le, le→leb}
use lib.ListN.{length, length-append}
use Rattle.base.specs.Rounds.{rounds}
use Rattle.base.proofs.Booleans.{clash, and_T, T_and}
use Rattle.base.proofs.Fixpoint.{Within, settle}
use Rattle.grammar.specs.declared.Symbol.TheVariants.{End}
use Rattle.grammar.specs.Grammar.{Grammar, facing}
use Rattle.grammar.proofs.GrammarLaws.{faces-place}
use Rattle.derivation.specs.inside.Reach.{Reach}
use Rattle.derivation.specs.ReachRounds.{Point, point, stepped, reach_round, point_count, reach?}
use Rattle.derivation.proofs.CellLaws.{derives-sound, derives-complete}
use Rattle.derivation.proofs.ReachLaws.{reach-in}
use Rattle.derivation.proofs.ReachSteps.{ReachedBy, start, match, call, return, step_in, step-out, stepped-mono}

-- ---- the points of P places over the positions up to n, as one list
places-at : ℕ → ℕ → List Point
places-at i zero = []
places-at i (suc P) = point P i ∷ places-at i P

points : ℕ → ℕ → List Point
points zero P = []
points (suc n) P = places-at n P ++ points n P

length-places : (i P : ℕ) → length (places-at i P) ≡ P
unfolding places-at
length-places i zero = refl
length-places i (suc P) = ap suc (length-places i P)

length-points : (n P : ℕ) → length (points n P) ≡ n * P
unfolding points
length-points zero P = omega arith
length-points (suc n) P = length-append (places-at n P) (points n P) ∙ rw (length-places n P, length-points n P, suc-mul, add_comm)

places-in : (i P p : ℕ) → p < P → Memᴰ (point p i) (places-at i P)
unfolding places-at
places-in i zero p l = absurd (omega arith)
places-in i (suc P) p l = go (dec_lt p P) (places-in i P p)
  where
    go : Dec (p < P) → (p < P → Memᴰ (point p i) (places-at i P)) → Memᴰ (point p i) (point P i ∷ places-at i P)
    go (yes h) rec = Memᴰ.tail (rec h)
    go (no h) rec = let z : p ≡ P = omega arith in Memᴰ.head (ap (λ (x : ℕ). point x i) z)

points-in : (n P i p : ℕ) → i < n → p < P → Memᴰ (point p i) (points n P)
unfolding points
points-in zero P i p l h = absurd (omega arith)
points-in (suc n) P i p l h = go (dec_lt i n) (λ k. points-in n P i p k h)
  where
    go : Dec (i < n) → (i < n → Memᴰ (point p i) (points n P)) → Memᴰ (point p i) (places-at n P ++ points n P)
    go (yes k) rec = Memᴰ.append_right (places-at n P) (rec k)
    go (no k) rec = let z : i ≡ n = omega arith in rw z (Memᴰ.append_left (points n P) (places-in n P p h))

module _ (g : Grammar) (w : List ℕ) where
  -- every point of X is reached
  abbrev pub SoundPoints : (Point → Bool) → Type 0
  SoundPoints X = (c : Point) → T (X c) → Reach g w c.place c.at

  -- ---- a round: a step to a point of the table
  round-in : (X : Point → Bool) (c : Point) → c.place < length g.places → c.at ≤ length w → T (stepped g w X c) → T (reach_round g w X c)
  unfolding reach_round
  round-in X c l h t =
      T_and (ltb c.place (length g.places) && leb c.at (length w)) (stepped g w X c)
      (T_and (ltb c.place (length g.places)) (leb c.at (length w)) (le→leb (suc c.place) (length g.places) l)
      (le→leb c.at (length w) h)) t

  round-out : (X : Point → Bool) (c : Point) → T (reach_round g w X c) → (c.place < length g.places) × (c.at ≤ length w) × T (stepped g w X c)
  unfolding reach_round
  round-out X c t =
      let h = and_T (ltb c.place (length g.places) && leb c.at (length w)) (stepped g w X c) t in
      let k = and_T (ltb c.place (length g.places)) (leb c.at (length w)) h.0 in
      (leb→le (suc c.place) (length g.places) k.0, leb→le c.at (length w) k.1, h.1)

  round_mono : (X Y : Point → Bool) → Within X Y → Within (reach_round g w X) (reach_round g w Y)
  round_mono X Y h c t = let (l, k, s) = round-out X c t in round-in Y c l k (stepped-mono g w X Y h c s)

  settled : (c : Point) → Memᴰ c (points (suc (length w)) (length g.places))
      ⊎ ((X Y : Point → Bool) → T (reach_round g w X c) → T (reach_round g w Y c))
  settled c = go (dec_lt c.place (length g.places)) (dec_le c.at (length w))
    where
      go : Dec (c.place < length g.places) → Dec (c.at ≤ length w)
          → Memᴰ c (points (suc (length w)) (length g.places)) ⊎ ((X Y : Point → Bool) → T (reach_round g w X c) → T (reach_round g w Y c))
      go (yes l) (yes h) = inl (points-in (suc (length w)) (length g.places) c.at c.place (omega arith) l)
      go (yes l) (no h) = inr (λ X Y t. absurd (h (round-out X c t).1))
      go (no l) h = inr (λ X Y t. absurd (l (round-out X c t).0))

  -- what the rounds hold
  abbrev held : Point → Bool
  held c = rounds (reach_round g w) (suc (point_count g w)) c

  held-closed : Within (reach_round g w held) held
  held-closed = rw length-points at (settle (reach_round g w) round_mono (points (suc (length w)) (length g.places)) settled)

  -- ---- sound: a step from points that are reached leads to a point that is reached
  pub steps-add : (X : Point → Bool) → SoundPoints X → SoundPoints (stepped g w X)
  steps-add X rec c t = go (step-out g w X c.place c.at t)
    where
      go : {q j : ℕ} → ReachedBy g w X q j → Reach g w q j
      go (start b e z) = rw z (Reach.start b e)
      go (match z y e d a x) = rw (z, y) (Reach.match (rec _ x) e d a)
      go (call p b e d x) = Reach.call b (rec _ x) e d
      go (return i b z e d y x) = let (r, h) = derives-sound g w y in rw z (Reach.return b (rec _ x) e d h)

  rounds-sound : (k : ℕ) → SoundPoints (rounds (reach_round g w) k)
  unfolding rounds
  rounds-sound zero c t = absurd t
  rounds-sound (suc k) c t = steps-add (rounds (reach_round g w) k) (rounds-sound k) c (round-out (rounds (reach_round g w) k) c t).2

  -- ---- complete: from a set closed under a round one step leads to every point that is reached
  module _ (X : Point → Bool) (closed : Within (reach_round g w X) X) where
    keep : {p i : ℕ} → Reach g w p i → ¬ (facing g p ≡ End) → T (stepped g w X (point p i)) → T (X (point p i))
    keep {p} {i} x n t = closed (point p i) (round-in X (point p i) (faces-place g p n) (reach-in x) t)

    pub closed-reach : {p i : ℕ} → Reach g w p i → T (stepped g w X (point p i))
    closed-reach (Reach.start {f = f} b e) = step_in g w X f 0 (start b e refl)
    closed-reach (Reach.match {p = p} {i = i} x e d a) =
        step_in g w X (suc p) (suc i) (match refl refl e d a (keep x (λ z. clash (cc)) (closed-reach x)))
    closed-reach (Reach.call {p = p} {f = f} {i = i} b x e d) = step_in g w X f i (call p b e d (keep x (λ z. clash (cc)) (closed-reach x)))
    closed-reach (Reach.return {p = p} {i = i} {m = m} b x e d y) =
        step_in g w X (suc p) m (return i b refl e d (derives-complete g w y) (keep x (λ z. clash (cc)) (closed-reach x)))

  pub reach-iff : (p i : ℕ) → T (reach? g w p i) ↔ Reach g w p i
  unfolding reach?
  reach-iff p i = (steps-add held (rounds-sound (suc (point_count g w))) (point p i), closed-reach held held-closed)
