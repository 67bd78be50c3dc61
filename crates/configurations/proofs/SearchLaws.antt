-- The search for a member: a part of the members that does not have it is passed over at once.
use mathlib.Core.Path.{◌≡◌, refl, sym, ap, ◌∙◌}
use mathlib.Core.Logic.{◌⊎◌, inl, inr}
use mathlib.Core.Bool.{Bool, true, false, ◌&&◌, ◌||◌}
use mathlib.Core.List.{List, [], ◌∷◌, ◌++◌}
use Prim.Native.Nat.{ℕ, zero, suc, ◌+◌, ◌-◌, ◌≤◌, ◌<◌}
use native.Mathlib.Omega.{arith}
use lib.Dec.{eqb}
use borrow.Author.Tests.{eq-eqb, ne_eqb}
use Rattle.std.specs.List.{list_any, range_with_len}
use Rattle.base.specs.Rounds.{any_of}
use Rattle.base.proofs.Bits.{same?}
use Rattle.base.proofs.Booleans.{or_assoc, clash}
use Rattle.lookahead.specs.Configs.{Config}
use Rattle.lookahead.specs.Closing.{same_config, member?}
use Rattle.configurations.specs.declared.config.Packed.{Packed}
use Rattle.configurations.specs.inside.Packed.{config_of, Exact, packed_at}
use Rattle.configurations.specs.inside.Held.{config_at, configs_from, Room, MemberPart}
use Rattle.configurations.proofs.CompareLaws.{heads-differ}
use Rattle.configurations.proofs.HeldLaws.{held-add}

any_append : {A : Type 0} (p : A → Bool) (l m : List A) → any_of p (l ++ m) ≡ (any_of p l || any_of p m)
unfolding any_of
any_append p [] m = refl
any_append p (x ∷ l) m = ap (λ (b : Bool). p x || b) (any_append p l m) ∙ sym (or_assoc (p x) (any_of p l) (any_of p m))

-- ---- from k on among the first n: m of them, and the rest
module _ (ws : List ℕ) (d : Config) (k m n : ℕ) {b : Bool} (l : k + m ≤ n) (h : member? d (configs_from ws k (n - k)) ≡ b) where
  parts : (member? d (configs_from ws k m) || member? d (configs_from ws (k + m) (n - (k + m)))) ≡ b
  unfolding member?
  parts =
      let z : n - k ≡ m + (n - (k + m)) = omega arith in
      sym (any_append (λ (c : Config). same_config d c) (configs_from ws k m) (configs_from ws (k + m) (n - (k + m))))
      ∙ ap (member? d) (sym (ap (configs_from ws k) z ∙ held-add ws k m (n - (k + m)))) ∙ h

  pub part-hit : member? d (configs_from ws k m) ≡ true → true ≡ b
  part-hit e = let z = parts in rw e at z

  pub part_none : member? d (configs_from ws k m) ≡ false → member? d (configs_from ws (k + m) (n - (k + m))) ≡ b
  part_none e = let z = parts in rw e at z

-- what was asked of those from k up to k + m
pub block-is : (ws : List ℕ) (d : Config) (k m : ℕ) {r b : Bool} → r ≡ member? d (configs_from ws k (k + m - k)) → r ≡ b → member? d (configs_from ws k m) ≡ b
block-is ws d k m e f = let z : k + m - k ≡ m = omega arith in ap (λ (j : ℕ). member? d (configs_from ws k j)) (sym z) ∙ sym e ∙ f

-- ---- a part of the members
-- a part of the first n
pub part_of : {ws : List ℕ} {n : ℕ} → Room ws n → (f t : ℕ) → f ≤ t → t ≤ n → MemberPart ws f t
part_of room f t l m = record {
  within = l;
  room = record { few = omega (arith, room.few); long = room.long; exact = λ k h. room.exact k (omega arith) };
}

-- members that are exact
abbrev Known : List ℕ → ℕ → ℕ → Type 0
Known ws k n = (j : ℕ) → k ≤ j → j < k + n → Exact (packed_at ws j)

pub part-known : {ws : List ℕ} (f t : ℕ) → MemberPart ws f t → (n : ℕ) → f + n ≡ t → Known ws f n
part-known f t part n e j a b = part.room.exact j (omega arith)

-- member j has the head of c, and is c
abbrev pub headed : List ℕ → Packed → ℕ → Bool
headed ws c j = eqb (packed_at ws j).head c.head

abbrev pub found : List ℕ → Packed → ℕ → Bool
found ws c j = headed ws c j && same_config (config_of c) (config_of (packed_at ws j))

module _ (ws : List ℕ) (c : Packed) (e : Exact c) where
  found-is : (j : ℕ) → Exact (packed_at ws j) → found ws c j ≡ same_config (config_of c) (config_at ws j)
  unfolding config_at
  found-is j f = go (same? (packed_at ws j).head c.head)
    where
      go : ((packed_at ws j).head ≡ c.head) ⊎ ((packed_at ws j).head ≡ c.head → ⊥) → found ws c j ≡ same_config (config_of c) (config_of (packed_at ws j))
      go (inl q) = rw (eq-eqb (packed_at ws j).head c.head q) refl
      go (inr n) = rw (ne_eqb (packed_at ws j).head c.head n) (heads-differ c (packed_at ws j) e f (λ q. n (sym q)))

  pub found-among : (k n : ℕ) → Known ws k n → list_any (found ws c) (range_with_len k n) ≡ member? (config_of c) (configs_from ws k n)
  unfolding member? any_of configs_from
  found-among k zero h = refl
  found-among k (suc n) h =
      let z : k + 1 ≡ suc k = omega arith in
      rw z (λ i. found-is k (h k (omega arith) (omega arith)) i || found-among (suc k) n (λ j a b. h j (omega arith) (omega arith)) i)

  -- a block of other heads does not have c
  pub block_none : (k n : ℕ) → Known ws k n → list_any (headed ws c) (range_with_len k n) ≡ false → member? (config_of c) (configs_from ws k n) ≡ false
  block_none k n h f = sym (found-among k n h) ∙ go (range_with_len k n) f
    where
      step : (a b r s : Bool) → (a || r) ≡ false → (r ≡ false → s ≡ false) → ((a && b) || s) ≡ false
      step true b r s f g = clash (cc)
      step false b r s f g = g f

      go : (l : List ℕ) → list_any (headed ws c) l ≡ false → list_any (found ws c) l ≡ false
      go [] f = refl
      go (x ∷ l) f = step (headed ws c x) (same_config (config_of c) (config_of (packed_at ws x))) (list_any (headed ws c) l) (list_any (found ws c) l) f (go l)
