-- What rows of words hold: parts of it, what a store changes, searches from one index on.
use mathlib.Core.Path.{◌≡◌, refl, sym, ap, ◌∙◌}
use mathlib.Core.Logic.{◌⊎◌, inl, inr}
use mathlib.Core.Bool.{Bool, true, false, ◌&&◌, ◌||◌, not}
use mathlib.Core.Option.{some}
use mathlib.Core.List.{List, [], ◌∷◌, ◌++◌}
use Prim.Native.Nat.{ℕ, zero, suc, ◌+◌, ◌-◌, ◌≤◌, ◌<◌}
use native.Mathlib.Omega.{arith}
use lib.ListN.{length, get_elem?}
use Rattle.std.specs.List.{list_any, list_all, range_with_len}
use Rattle.base.specs.Rounds.{any_of}
use Rattle.base.proofs.Bits.{same?}
use Rattle.lookahead.specs.Configs.{Config}
use Rattle.lookahead.specs.Closing.{max_members}
use Rattle.configurations.specs.declared.config.Packed.{Packed}
use Rattle.configurations.specs.inside.Packed.{config_of, Exact, Has, packed_at, put_config}
use Rattle.configurations.specs.inside.Held.{config_at, configs_from, Room}
use Rattle.configurations.proofs.WordLaws.{length-put, packed-put, packed-other}

module _ (ws : List ℕ) where
  pub length-held : (k n : ℕ) → length (configs_from ws k n) ≡ n
  unfolding configs_from
  length-held k zero = refl
  length-held k (suc n) = ap suc (length-held (suc k) n)

  -- one part behind another
  pub held-add : (k n m : ℕ) → configs_from ws k (n + m) ≡ configs_from ws k n ++ configs_from ws (k + n) m
  unfolding configs_from
  held-add k zero m = let e : k + 0 ≡ k = omega arith in let z : 0 + m ≡ m = omega arith in rw (e, z)
  held-add k (suc n) m =
      let e : k + suc n ≡ suc k + n = omega arith in
      let z : suc n + m ≡ suc (n + m) = omega arith in
      rw (e, z) (ap (λ (l : List Config). config_at ws k ∷ l) (held-add (suc k) n m))

  pub held_one : (k : ℕ) → configs_from ws k 1 ≡ config_at ws k ∷ []
  unfolding configs_from
  held_one k = refl

  -- the first of a part that is not empty
  pub held_first : (k n : ℕ) → k < n → configs_from ws k (n - k) ≡ config_at ws k ∷ configs_from ws (k + 1) (n - (k + 1))
  unfolding configs_from
  held_first k n h = let z : n - k ≡ suc (n - (k + 1)) = omega arith in let y : k + 1 ≡ suc k = omega arith in rw (z, y)

  pub held_none : (k n : ℕ) → n ≤ k → configs_from ws k (n - k) ≡ []
  unfolding configs_from
  held_none k n h = let z : n - k ≡ 0 = omega arith in rw z

  pub get-held : (k n j : ℕ) → j < n → get_elem? (configs_from ws k n) j ≡ some (config_at ws (k + j))
  unfolding configs_from
  get-held k zero j h = absurd (omega arith)
  get-held k (suc n) zero h = let e : k + 0 ≡ k = omega arith in rw e
  get-held k (suc n) (suc j) h = let e : k + suc j ≡ suc k + j = omega arith in rw e (get-held (suc k) n j (omega arith))

  pub held_all : (n : ℕ) → configs_from ws 0 (n - 0) ≡ configs_from ws 0 n
  held_all n = let e : n - 0 ≡ n = omega arith in rw e

  -- a member that was read is the one that is held
  pub said_at : (k : ℕ) {c : Packed} → c ≡ packed_at ws k → config_of c ≡ config_at ws k
  unfolding config_at
  said_at k e = ap config_of e

  -- a test of a member that was read is one of what is held
  pub test_at : (p : Config → Bool) (k : ℕ) {c : Packed} {r v : Bool} → c ≡ packed_at ws k → r ≡ p (config_of c) → r ≡ v → p (config_at ws k) ≡ v
  test_at p k a e f = ap p (sym (said_at k a)) ∙ sym e ∙ f

  -- ---- a test of n of them, from k on, as a chain over their numbers makes it
  pub any-range : (p : Config → Bool) (k n : ℕ) → list_any (λ j. p (config_at ws j)) (range_with_len k n) ≡ any_of p (configs_from ws k n)
  unfolding any_of configs_from
  any-range p k zero = refl
  any-range p k (suc n) = let z : k + 1 ≡ suc k = omega arith in rw z (ap (λ (b : Bool). p (config_at ws k) || b) (any-range p (suc k) n))

  pub all-range : (p : Config → Bool) (k n : ℕ) → list_all (λ j. p (config_at ws j)) (range_with_len k n)
      ≡ not (any_of (λ (c : Config). not (p c)) (configs_from ws k n))
  unfolding any_of configs_from
  all-range p k zero = refl
  all-range p k (suc n) =
      let z : k + 1 ≡ suc k = omega arith in rw z (go (p (config_at ws k)) _ (all-range p (suc k) n))
    where
      go : (b : Bool) {r : Bool} (s : Bool) → r ≡ not s → (b && r) ≡ not (not b || s)
      go true s e = e
      go false s e = refl

  -- ---- a search from k on among the first n
  module _ (p : Config → Bool) (k n : ℕ) {b : Bool} (h : any_of p (configs_from ws k (n - k)) ≡ b) where
    first : k < n → (p (config_at ws k) || any_of p (configs_from ws (k + 1) (n - (k + 1)))) ≡ b
    unfolding any_of
    first l = ap (any_of p) (sym (held_first k n l)) ∙ h

    pub any-hit : k < n → p (config_at ws k) ≡ true → true ≡ b
    any-hit l e = let z = first l in rw e at z

    pub any_next : k < n → p (config_at ws k) ≡ false → any_of p (configs_from ws (k + 1) (n - (k + 1))) ≡ b
    any_next l e = let z = first l in rw e at z

    pub any-end : n ≤ k → false ≡ b
    unfolding any_of
    any-end l = ap (any_of p) (sym (held_none k n l)) ∙ h

-- ---- members
module _ {ws : List ℕ} {n : ℕ} (room : Room ws n) where
  -- their words are there
  pub room-has : (k : ℕ) → k < max_members → Has ws k
  room-has k l = omega (arith, room.long)

  pub member-has : (k : ℕ) → k < n → Has ws k
  member-has k l = room-has k (omega (arith, room.few))

  -- one that was read is exact
  pub exact-at : (k : ℕ) → k < n → {c : Packed} → c ≡ packed_at ws k → Exact c
  exact-at k l e = rw e (room.exact k l)

-- ---- other words
pub held_same : (ws ws' : List ℕ) (k n : ℕ) → ((j : ℕ) → k ≤ j → j < k + n → config_at ws j ≡ config_at ws' j) → configs_from ws k n
    ≡ configs_from ws' k n
unfolding configs_from
held_same ws ws' k zero h = refl
held_same ws ws' k (suc n) h =
    let p = h k (omega arith) (omega arith) in
    let q = held_same ws ws' (suc k) n (λ j a b. h j (omega arith) (omega arith)) in
    λ i. p i ∷ q i

-- ---- c put at i
module _ (ws : List ℕ) (i : ℕ) (c : Packed) where
  pub stored : Has ws i → config_at (put_config ws i c) i ≡ config_of c
  unfolding config_at
  stored h = ap config_of (packed-put ws i c h)

  pub unstored : (k : ℕ) → (k ≡ i → ⊥) → config_at (put_config ws i c) k ≡ config_at ws k
  unfolding config_at
  unstored k n = ap config_of (packed-other ws i c k n)

  -- parts that do not have i stay
  pub held_below : (k n : ℕ) → k + n ≤ i → configs_from (put_config ws i c) k n ≡ configs_from ws k n
  held_below k n h = held_same (put_config ws i c) ws k n (λ j a b. unstored j (λ e. omega arith))

  pub held-above : (k n : ℕ) → i < k → configs_from (put_config ws i c) k n ≡ configs_from ws k n
  held-above k n h = held_same (put_config ws i c) ws k n (λ j a b. unstored j (λ e. omega arith))

  -- the members stay, if i was one or is the next
  pub room-put : {n m : ℕ} → Room ws n → Exact c → m ≤ max_members → i < max_members → ((k : ℕ) → k < m → (k ≡ i → ⊥) → k < n)
      → Room (put_config ws i c) m
  room-put {n} {m} room e few here others = record { few = few; long = length-put ws i c ∙ room.long; exact = λ k l. go k l (same? k i) }
    where
      go : (k : ℕ) → k < m → (k ≡ i) ⊎ (k ≡ i → ⊥) → Exact (packed_at (put_config ws i c) k)
      go k l (inl q) = rw (q, packed-put ws i c (room-has room i here)) e
      go k l (inr z) = rw (packed-other ws i c k z) (room.exact k (others k l z))
