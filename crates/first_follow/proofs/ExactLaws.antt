-- Masks that are FIRST and FOLLOW exactly are closed under their rules; and the words that `mark` leaves are such masks.
use mathlib.Core.Path.{◌≡◌, refl, ap, ◌∙◌}
use mathlib.Core.Logic.{◌↔◌}
use mathlib.Core.Bool.{Bool, true, false, ◌&&◌}
use mathlib.Core.List.{List}
use Prim.Native.Nat.{ℕ, ◌≤◌}
use native.Mathlib.Omega.{arith}
use lib.Bits.{bit_and}
use lib.Dec.{T, leb, leb→le, le→leb}
use lib.ListN.{length, get_or, set}
use lib.Seq.{get_or-set_same, get_or-set_other}
use Rattle.base.specs.Bits.{test_bit}
use Rattle.base.proofs.Booleans.{and_T, T_and, T→true}
use Rattle.base.proofs.Bits.{test-and}
use Rattle.grammar.specs.Limits.{max_kinds}
use Rattle.grammar.specs.Grammar.{Grammar}
use Rattle.closures.specs.Closures.{nullable?}
use Rattle.closures.specs.inside.Steps.{DerivingIs}
use Rattle.first_follow.specs.FirstFollow.{First, Follow}
use Rattle.first_follow.specs.inside.Masks.{Masks, Closed}
use Rattle.first_follow.specs.inside.Words.{start_at, follow_at, nullable_at, mask_words, starts_in, follows_in, masks_in, Exact}
use Rattle.first_follow.specs.inside.Steps.{Leading, Open, Related}
use Rattle.first_follow.proofs.LinedLaws.{Lined, leading-within, open-within}
use Rattle.first_follow.proofs.MarkLaws.{admits-is}

pub exact-closed : (g : Grammar) (M : Masks) → Exact g M → Closed g M
exact-closed g M h = record {
  start-token = λ a b f q k t d s e m. (h.starts t a).1 (First.token b d s e m);
  start-call = λ a b f q c t d s e m. (h.starts t a).1 (First.call b d s e ((h.starts t c).0 m));
  follow-mark = (h.follows _ 0).1 (Follow.mark refl);
  follow-token = λ p a q k t d s e m. (h.follows t a).1 (Follow.token d s e m);
  follow-call = λ p a q c t d s e m. (h.follows t a).1 (Follow.call d s e ((h.starts t c).0 m));
  follow-end = λ p a q t d s e m. (h.follows t a).1 (Follow.end d s e ((h.follows t _).0 m));
  empty-is = h.empty-is;
}

-- ---- the words of masks
within : (t : ℕ) → t ≤ max_kinds → leb t max_kinds ≡ true
within t l = T→true (leb t max_kinds) (le→leb t max_kinds l)

module _ (ws : List ℕ) (t a : ℕ) where
  pub starts-read : t ≤ max_kinds → {r : Bool} → r ≡ test_bit (get_or ws (start_at t) 0) a → r ≡ starts_in ws t a
  unfolding starts_in
  starts-read l e = rw (within t l) e

  pub follows-read : t ≤ max_kinds → {r : Bool} → r ≡ test_bit (get_or ws (follow_at t) 0) a → r ≡ follows_in ws t a
  unfolding follows_in
  follows-read l e = rw (within t l) e

  pub empty-read : t ≤ max_kinds → {r : Bool} → r ≡ test_bit (bit_and (get_or ws (follow_at t) 0) (get_or ws nullable_at 0)) a → r ≡ (masks_in ws).empty t a
  empty-read l e = e ∙ test-and (get_or ws (follow_at t) 0) (get_or ws nullable_at 0) a
      ∙ ap (λ (d : Bool). d && test_bit (get_or ws nullable_at 0) a) (follows-read l refl)

module _ {g : Grammar} (L : Lined g) where
  -- no other tokens are in FIRST or FOLLOW
  first_kind : {t a : ℕ} → First g t a → t ≤ max_kinds
  first_kind {t} {a} (First.token {f = f} {q = q} {k = k} b d s e m) =
      let x : Leading g q = record { who = a; alternative = b; start = f; begins = d; skips = s } in
      let h = L.kind q k (leading-within L x) e in
      let z = admits-is g k t m in omega (arith, L.few-kinds)
  first_kind (First.call b d s e x) = first_kind x

  follow-kind : {t a : ℕ} → Follow g t a → t ≤ max_kinds
  follow-kind (Follow.mark e) = omega arith
  follow-kind {t} {a} (Follow.token {p = p} {q = q} {k = k} d s e m) =
      let x : Open g q a = record { place = p; calls = d; skips = s } in
      let h = L.kind q k (open-within L x) e in
      let z = admits-is g k t m in omega (arith, L.few-kinds)
  follow-kind (Follow.call d s e x) = first_kind x
  follow-kind (Follow.end d s e x) = follow-kind x

  module _ (ws : List ℕ) (x : ℕ) (long : length ws ≡ mask_words) (n : DerivingIs false g x) (h : Related g ws) where
    abbrev whole : List ℕ
    whole = set ws nullable_at x

    start-kept : (t : ℕ) → t ≤ max_kinds → get_or whole (start_at t) 0 ≡ get_or ws (start_at t) 0
    start-kept t l = get_or-set_other ws nullable_at (start_at t) x 0 (λ e. omega arith)

    follow-kept : (t : ℕ) → t ≤ max_kinds → get_or whole (follow_at t) 0 ≡ get_or ws (follow_at t) 0
    follow-kept t l = get_or-set_other ws nullable_at (follow_at t) x 0 (λ e. omega arith)

    starts-exact : (t a : ℕ) → T (starts_in whole t a) ↔ First g t a
    unfolding starts_in
    starts-exact t a = (λ s. out (and_T (leb t max_kinds) (test_bit (get_or whole (start_at t) 0) a) s), λ y. back y (first_kind y))
      where
        out : T (leb t max_kinds) × T (test_bit (get_or whole (start_at t) 0) a) → First g t a
        out (l, s) = let m = leb→le t max_kinds l in (h.start_is t m a).0 (rw (start-kept t m) at s)

        back : First g t a → t ≤ max_kinds → T (leb t max_kinds && test_bit (get_or whole (start_at t) 0) a)
        back y m = T_and (leb t max_kinds) (test_bit (get_or whole (start_at t) 0) a) (le→leb t max_kinds m) (rw (start-kept t m) ((h.start_is t m a).1 y))

    follows-exact : (t a : ℕ) → T (follows_in whole t a) ↔ Follow g t a
    unfolding follows_in
    follows-exact t a = (λ s. out (and_T (leb t max_kinds) (test_bit (get_or whole (follow_at t) 0) a) s), λ y. back y (follow-kind y))
      where
        out : T (leb t max_kinds) × T (test_bit (get_or whole (follow_at t) 0) a) → Follow g t a
        out (l, s) = let m = leb→le t max_kinds l in (h.follow-is t m a).0 (rw (follow-kept t m) at s)

        back : Follow g t a → t ≤ max_kinds → T (leb t max_kinds && test_bit (get_or whole (follow_at t) 0) a)
        back y m = T_and (leb t max_kinds) (test_bit (get_or whole (follow_at t) 0) a) (le→leb t max_kinds m) (rw (follow-kept t m) ((h.follow-is t m a).1 y))

    nullable-in : (a : ℕ) → test_bit (get_or whole nullable_at 0) a ≡ nullable? g a
    unfolding DerivingIs
    nullable-in a = rw (get_or-set_same ws nullable_at x 0 (omega arith)) (n a)

    -- behind the masks
    pub stored : DerivingIs false g (get_or whole nullable_at 0)
    stored = rw (get_or-set_same ws nullable_at x 0 (omega arith)) n

    pub exact : Exact g (masks_in whole)
    exact = record { starts = starts-exact; follows = follows-exact; empty-is = λ t a. ap (λ (d : Bool). follows_in whole t a && d) (nullable-in a) }
