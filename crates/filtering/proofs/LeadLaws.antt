-- Where one symbol leads: from one position by what the place faces, and from a set of positions, a member at a time in rising order.
use mathlib.Core.Path.{◌≡◌, refl}
use mathlib.Core.Logic.{◌↔◌, ◌⊎◌, inl, inr}
use mathlib.Core.List.{List}
use Prim.Native.Nat.{ℕ, suc, ◌≤◌, ◌<◌}
use native.Mathlib.Omega.{arith}
use native.Mathlib.Decide.{dec_le, dec_lt}
use lib.Dec.{T}
use lib.ListN.{length}
use Rattle.base.proofs.Booleans.{clash}
use Rattle.grammar.specs.declared.Symbol.TheVariants.{Token, Nonterminal}
use Rattle.grammar.specs.Grammar.{Grammar, facing, admits}
use Rattle.first_follow.specs.inside.Masks.{Masks}
use Rattle.filtering.specs.inside.Beginnings.{token_at}
use Rattle.filtering.specs.inside.Filtered.{PairEnds, Over, token, call, LeadsBelow, Leads}
use Rattle.filtering.proofs.StartLaws.{admits-at}
use Rattle.filtering.proofs.EndLaws.{over-token}

module _ {g : Grammar} {M : Masks} {w : List ℕ} where
  -- ---- from one position
  pub leads-token : {p k i : ℕ} → facing g p ≡ Token k → i < length w → T (admits g k (token_at w i)) → (m : ℕ) → Over g M w p i m ↔ (m ≡ suc i)
  leads-token {p} {k} {i} e l q m = (to, λ z. rw z (over-token e l q))
    where
      to : {m : ℕ} → Over g M w p i m → m ≡ suc i
      to (token d h t) = refl
      to (call d h) = clash (cc)

  pub leads-other : {p k i : ℕ} → facing g p ≡ Token k → ¬ T (admits g k (token_at w i)) → (m : ℕ) → ¬ Over g M w p i m
  leads-other {k = k} {i = i} e n m (token {k = k'} d h t) = let z : k' ≡ k = cc in n (admits-at g w i k h (rw z at t))
  leads-other e n m (call d h) = clash (cc)

  pub leads-call : {p i : ℕ} (a : ℕ) → facing g p ≡ Nonterminal a → (m : ℕ) → Over g M w p i m ↔ PairEnds g M w a i m
  leads-call {p} {i} a e m = (to, λ x. call e x)
    where
      to : {m : ℕ} → Over g M w p i m → PairEnds g M w a i m
      to (token d h t) = clash (cc)
      to (call {a = a'} d h) = let z : a' ≡ a = cc in rw z at h

  -- ---- from the members of X, in rising order
  module _ (p : ℕ) (X : ℕ → Type 0) where
    pub leads-begin : (Y : ℕ → Type 0) → ((m : ℕ) → ¬ Y m) → LeadsBelow g M w p X 0 Y
    leads-begin Y n m = (λ y. absurd (n m y), λ x. let (j, u, l, o) = x in absurd (omega arith))

    -- no member stands between
    pub leads-pass : (Y : ℕ → Type 0) (n j : ℕ) → n ≤ j → ((k : ℕ) → n ≤ k → k < j → ¬ X k) → LeadsBelow g M w p X n Y → LeadsBelow g M w p X j Y
    leads-pass Y n j l none h m =
        (λ y. let (k, u, v, o) = (h m).0 y in (k, u, omega arith, o), λ x. let (k, u, v, o) = x in (h m).1 (k, u, back k u v (dec_lt k n), o))
      where
        back : (k : ℕ) → X k → k < j → Dec (k < n) → k < n
        back k u v (yes z) = z
        back k u v (no z) = absurd (none k (omega arith) v u)

    -- the next member is j: Z has besides Y what the symbol leads to from j
    pub leads-add : (Y Z : ℕ → Type 0) (n j : ℕ) → n ≤ j → ((k : ℕ) → n ≤ k → k < j → ¬ X k) → X j → ((m : ℕ) → Z m ↔ (Y m ⊎ Over g M w p j m))
        → LeadsBelow g M w p X n Y → LeadsBelow g M w p X (suc j) Z
    leads-add Y Z n j l none x z h m = (λ u. to ((z m).0 u), λ u. from u (dec_le j u.0))
      where
        before : LeadsBelow g M w p X j Y
        before = leads-pass Y n j l none h

        to : Y m ⊎ Over g M w p j m → (k : ℕ) × X k × (k < suc j) × Over g M w p k m
        to (inl y) = let (k, u, v, o) = (before m).0 y in (k, u, omega arith, o)
        to (inr o) = (j, x, omega arith, o)

        from : (u : (k : ℕ) × X k × (k < suc j) × Over g M w p k m) → Dec (j ≤ u.0) → Z m
        from (k, u, v, o) (yes q) = let e : k ≡ j = omega arith in (z m).1 (inr (rw e at o))
        from (k, u, v, o) (no q) = (z m).1 (inl ((before m).1 (k, u, omega arith, o)))

    -- no member is left
    pub leads-end : (Y : ℕ → Type 0) (n : ℕ) → ((k : ℕ) → n ≤ k → ¬ X k) → LeadsBelow g M w p X n Y → Leads g M w p X Y
    leads-end Y n none h m =
        (λ y. let (k, u, v, o) = (h m).0 y in (k, u, o), λ x. let (k, u, o) = x in (h m).1 (k, u, back k u (dec_lt k n), o))
      where
        back : (k : ℕ) → X k → Dec (k < n) → k < n
        back k u (yes z) = z
        back k u (no z) = absurd (none k (omega arith) u)
