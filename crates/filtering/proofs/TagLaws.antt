-- What a tag says, and that a tag to which an end was added says one end more. Ends are added in the order of the alternatives, so the first that gives an
-- end is the lowest.
use mathlib.Core.Path.{◌≡◌, refl, sym, ◌∙◌}
use mathlib.Core.Logic.{◌↔◌, ◌⊎◌, inl, inr}
use mathlib.Core.Bool.{Bool, true, false, cond, ◌||◌, not}
use Prim.Native.Nat.{ℕ, ◌≤◌}
use native.Mathlib.Omega.{arith}
use lib.Dec.{T, eqb, eqb→eq, eqb_refl}
use Rattle.base.proofs.Booleans.{or-T, T-or-l, T-or-r, true→T, false→¬T}
use Rattle.filtering.specs.inside.Tags.{Tag, no_end, one_end, ends, add, Says, none, one, set, With}

-- ---- the same ends, told in another way
pub says_same : {P Q : ℕ → ℕ → Type 0} {t : Tag} → ((b m : ℕ) → P b m ↔ Q b m) → Says P t → Says Q t
says_same h (none n) = none (λ b m q. n b m ((h b m).1 q))
says_same h (one {m = m} {b = b} p u e) =
    one ((h b m).0 p) (λ c n q. u c n ((h c n).1 q))
    (λ t. let (c, x, y) = e.0 t in (c, (h c m).0 x, y), λ s. let (c, x, y) = s in e.1 (c, (h c m).1 x, y))
says_same h (set e) =
    set (λ m. (λ t. let (b, x) = (e m).0 t in (b, (h b m).0 x), λ s. let (b, x) = s in (e m).1 (b, (h b m).1 x)))

-- ---- one end more
neq : (a b : ℕ) → eqb a b ≡ false → ¬ (a ≡ b)
neq a b e q = false→¬T (eqb a b) e (rw q (eqb_refl b))

-- end j by alternative k, none of a higher one being told yet
module _ {P : ℕ → ℕ → Type 0} (k j : ℕ) (high : (c n : ℕ) → P c n → c ≤ k) where
  add-set : (s : ℕ → Bool) → ((m : ℕ) → T (s m) ↔ ((b : ℕ) × P b m)) → (m : ℕ) → T (s m || eqb m j) ↔ ((b : ℕ) × With P k j b m)
  add-set s e m = (λ t. to (or-T (s m) (eqb m j) t), from)
    where
      to : T (s m) ⊎ T (eqb m j) → (b : ℕ) × With P k j b m
      to (inl t) = let (b, x) = (e m).0 t in (b, inl x)
      to (inr t) = (k, inr (refl, eqb→eq m j t))

      from : (b : ℕ) × With P k j b m → T (s m || eqb m j)
      from (b, inl x) = T-or-l (s m) (eqb m j) ((e m).1 (b, x))
      from (b, inr (q, z)) = T-or-r (s m) (eqb m j) (rw z (eqb_refl j))

  add-first : ((b m : ℕ) → ¬ P b m) → Says (With P k j) (one_end j k false)
  add-first n = one (inr (refl, refl)) only (λ t. absurd t, other)
    where
      only : (c m : ℕ) → With P k j c m → (m ≡ j) × (k ≤ c)
      only c m (inl x) = absurd (n c m x)
      only c m (inr (q, z)) = (z, omega arith)

      other : (c : ℕ) × With P k j c j × ¬ (c ≡ k) → T false
      other (c, inl x, y) = n c j x
      other (c, inr (q, z), y) = y q

  -- the single end again
  add-again : (m b : ℕ) (more : Bool) → m ≡ j → P b m → ((c n : ℕ) → P c n → (n ≡ m) × (b ≤ c)) → T more ↔ ((c : ℕ) × P c m × ¬ (c ≡ b))
      → (v : Bool) → eqb b k ≡ v → Says (With P k j) (one_end m b (more || not v))
  add-again m b more z p u e v q = one (inl p) only (λ t. to v q (or-T more (not v) t), from v q)
    where
      only : (c n : ℕ) → With P k j c n → (n ≡ m) × (b ≤ c)
      only c n (inl x) = u c n x
      only c n (inr (y, y')) = let h = high b m p in (omega arith, omega arith)

      to : (v : Bool) → eqb b k ≡ v → T more ⊎ T (not v) → (c : ℕ) × With P k j c m × ¬ (c ≡ b)
      to v q (inl t) = let (c, x, y) = e.0 t in (c, inl x, y)
      to true q (inr t) = absurd t
      to false q (inr t) = (k, inr (refl, z), λ y. neq b k q (sym y))

      from : (v : Bool) → eqb b k ≡ v → (c : ℕ) × With P k j c m × ¬ (c ≡ b) → T (more || not v)
      from v q (c, inl x, y) = T-or-l more (not v) (e.1 (c, x, y))
      from true q (c, inr (y, y'), n) = absurd (n (y ∙ sym (eqb→eq b k (true→T (eqb b k) q))))
      from false q (c, inr (y, y'), n) = T-or-r more true tt

  -- another end beside the single one
  add-second : (m b : ℕ) → P b m → ((c n : ℕ) → P c n → (n ≡ m) × (b ≤ c)) → Says (With P k j) (ends (λ x. eqb x m || eqb x j))
  add-second m b p u = set (add-set (λ x. eqb x m) (λ n. (λ t. (b, rw (eqb→eq n m t) p), λ s. let (c, x) = s in rw (u c n x).0 (eqb_refl m))))

  -- all ways at once
  pub says-add : (t : Tag) → Says P t → Says (With P k j) (add t k j)
  unfolding add
  says-add no_end (none n) = add-first n
  says-add (one_end m b more) (one p u e) = go (eqb m j) refl
    where
      go : (v : Bool) → eqb m j ≡ v → Says (With P k j) (cond v (one_end m b (more || not (eqb b k))) (ends (λ x. eqb x m || eqb x j)))
      go true q = add-again m b more (eqb→eq m j (true→T (eqb m j) q)) p u e (eqb b k) refl
      go false q = add-second m b p u
  says-add (ends s) (set e) = set (add-set s e)
