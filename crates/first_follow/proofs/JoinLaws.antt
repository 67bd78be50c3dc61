-- Rows joined for the members of a set; and the sets of every kind, worked out one kind after the other.
use mathlib.Core.Path.{◌≡◌, refl, ◌∙◌}
use mathlib.Core.Logic.{◌⊎◌, ◌↔◌, inl, inr}
use mathlib.Core.Bool.{true, not, ◌&&◌}
use mathlib.Core.List.{List}
use Prim.Native.Nat.{ℕ, suc, ◌+◌, ◌^◌, ◌≤◌, ◌<◌}
use native.Mathlib.Omega.{arith}
use lib.Bits.{bit_or, bit_xor}
use lib.Dec.{T, eqb}
use lib.ListN.{length, get_or, set}
use lib.Seq.{get_or-set_other}
use borrow.Author.Tests.{ne_eqb}
use Rattle.base.specs.Bits.{test_bit, HighestIs}
use Rattle.base.proofs.Booleans.{and_T, T_and, true→T}
use Rattle.base.proofs.Bits.{same?, test-none, test-without}
use Rattle.grammar.specs.Limits.{max_kinds}
use Rattle.first_follow.specs.inside.Words.{start_at, follow_at, mask_words}
use Rattle.first_follow.specs.inside.Steps.{Relations, Joined, KindIs, Kind, Kinds}
use Rattle.first_follow.proofs.PassLaws.{adds-or, stored-start, stored-follow}

-- some member of x has a row with the member a
abbrev Through : List ℕ → ℕ → ℕ → Type 0
Through rows x a = (c : ℕ) × T (test_bit x c) × T (test_bit (get_or rows c 0) a)

-- the set so far and the rows of the members still to come are together the set `from` and the rows of the members of x
unfoldable pub Joining : List ℕ → ℕ → ℕ → ℕ → ℕ → Type 0
Joining rows x from left r = (a : ℕ) → (T (test_bit r a) ⊎ Through rows left a) ↔ (T (test_bit from a) ⊎ Through rows x a)

module _ (rows : List ℕ) (x from : ℕ) where
  pub joining-begins : {left : ℕ} → left ≡ x → Joining rows x from left from
  unfolding Joining
  joining-begins e a = rw e (λ y. y, λ y. y)

  module _ (left r : ℕ) (h : Joining rows x from left r) where
    -- a member's row is joined, and it is to come no more
    pub joining-next : (v rest : ℕ) → HighestIs left v → rest ≡ bit_xor left (2 ^ v) → Joining rows x from rest (bit_or r (get_or rows v 0))
    unfolding Joining
    joining-next v rest m q a = (λ y. (h a).0 (up y), λ y. down ((h a).1 y))
      where
        rest-is : (c : ℕ) → test_bit rest c ≡ (test_bit left c && not (eqb c v))
        rest-is c = rw q (test-without left v c m.member)

        up : T (test_bit (bit_or r (get_or rows v 0)) a) ⊎ Through rows rest a → T (test_bit r a) ⊎ Through rows left a
        up (inl t) =
            elim ((adds-or r (get_or rows v 0) a).0 t) [ inl s ↦ inl s | inr s ↦ inr (v, true→T (test_bit left v) m.member, s) ]
        up (inr (c, s, t)) = inr (c, (and_T (test_bit left c) (not (eqb c v)) (rw (rest-is c) at s)).0, t)

        other : (c : ℕ) → T (test_bit left c) → T (test_bit (get_or rows c 0) a) → (c ≡ v) ⊎ (c ≡ v → ⊥)
            → T (test_bit (bit_or r (get_or rows v 0)) a) ⊎ Through rows rest a
        other c s t (inl e) = inl ((adds-or r (get_or rows v 0) a).1 (inr (rw e at t)))
        other c s t (inr n) = inr (c, rw (rest-is c, ne_eqb c v n) (T_and (test_bit left c) true s tt), t)

        down : T (test_bit r a) ⊎ Through rows left a → T (test_bit (bit_or r (get_or rows v 0)) a) ⊎ Through rows rest a
        down (inl t) = inl ((adds-or r (get_or rows v 0) a).1 (inl t))
        down (inr (c, s, t)) = other c s t (same? c v)

    -- none is left to come
    pub joining-ends : left ≡ 0 → Joined rows x from r
    unfolding Joining
    joining-ends z a = (λ t. (h a).0 (inl t), λ y. end ((h a).1 y))
      where
        end : T (test_bit r a) ⊎ Through rows left a → T (test_bit r a)
        end (inl t) = t
        end (inr (c, s, t)) = absurd (rw (z, test-none c) at s)

-- ---- one kind
module _ (R : Relations) (long : length R.masks ≡ mask_words) where
  pub kind-done : (t start seeds follow : ℕ) → t ≤ max_kinds → Joined R.above (get_or R.masks (start_at t) 0) (get_or R.masks (start_at t) 0) start
      → Joined R.before start (get_or R.masks (follow_at t) 0) seeds → Joined R.last seeds seeds follow
      → Kind R t (set (set R.masks (start_at t) start) (follow_at t) follow)
  kind-done t start seeds follow few a b c = record {
    done = record {
      seeds = seeds;
      start_is = stored-start R.masks t start follow long few
          (λ w. Joined R.above (get_or R.masks (start_at t) 0) (get_or R.masks (start_at t) 0) w) t (λ e. a) (λ n. absurd (n refl));
      seeds-are = stored-start R.masks t start follow long few (λ w. Joined R.before w (get_or R.masks (follow_at t) 0) seeds) t (λ e. b)
          (λ n. absurd (n refl));
      follow-is = stored-follow R.masks t start follow long few (λ w. Joined R.last seeds seeds w) t (λ e. c) (λ n. absurd (n refl));
    };
    kept = λ i m n. get_or-set_other (set R.masks (start_at t) start) (follow_at t) i follow 0 n ∙ get_or-set_other R.masks (start_at t) i start 0 m;
  }

-- ---- the kinds below t
kind-cast : (R : Relations) (k : ℕ) (ws ws' : List ℕ) → get_or ws' (start_at k) 0 ≡ get_or ws (start_at k) 0 → get_or ws' (follow_at k) 0
    ≡ get_or ws (follow_at k) 0
    → KindIs R k ws → KindIs R k ws'
kind-cast R k ws ws' e d h = record { seeds = h.seeds; start_is = rw e h.start_is; seeds-are = rw e h.seeds-are; follow-is = rw d h.follow-is }

module _ (R : Relations) where
  pub kinds-none : Kinds R 0 R.masks
  kinds-none = record { done = λ k l. absurd (omega arith); kept = λ i l. refl }

  -- one kind more: its words are still those that were gathered
  pub kinds-next : (t : ℕ) (ws ws' : List ℕ) → Kinds R t ws
      → Kind (record { masks = ws; above = R.above; before = R.before; last = R.last }) t ws' → Kinds R (t + 1) ws'
  kinds-next t ws ws' h k = record {
    done = λ j l. go j l (same? j t);
    kept = λ i l. k.kept i (λ e. omega arith) (λ e. omega arith) ∙ h.kept i (omega arith);
  }
    where
      here : KindIs R t ws'
      here = record {
        seeds = k.done.seeds;
        start_is = rw (h.kept (start_at t) (omega arith)) at k.done.start_is;
        seeds-are = rw (h.kept (follow_at t) (omega arith)) at k.done.seeds-are;
        follow-is = k.done.follow-is;
      }

      go : (j : ℕ) → j < t + 1 → (j ≡ t) ⊎ (j ≡ t → ⊥) → KindIs R j ws'
      go j l (inl e) = rw e here
      go j l (inr n) =
          kind-cast R j ws ws' (k.kept (start_at j) (λ e. n (omega arith)) (λ e. omega arith)) (k.kept (follow_at j) (λ e. omega arith) (λ e. n (omega arith)))
          (h.done j (omega arith))

  pub kinds-upto : (t : ℕ) (kinds : ℕ) (ws : List ℕ) → Kinds R t ws → t ≡ suc kinds → Kinds R (suc kinds) ws
  kinds-upto t kinds ws h e = rw e at h
