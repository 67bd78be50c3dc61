-- The test that no decision holds two equal states.
use mathlib.Core.Path.{◌≡◌, sym}
use mathlib.Core.Bool.{not}
use mathlib.Core.List.{List}
use Prim.Native.Nat.{ℕ, ◌<◌}
use native.Mathlib.Omega.{arith}
use native.Mathlib.Decide.{dec_lt}
use lib.Dec.{T, eqb, eqb_refl, eqb→eq, T_not, not_T}
use Rattle.base.proofs.AllLaws.{all-T, T-all}
use Rattle.base.proofs.Booleans.{and_T, T_and}
use Rattle.lookahead.specs.Closing.{same_list}
use Rattle.lookahead.proofs.AddLaws.{same-list, list_same}
use Rattle.words.specs.Words.{held, decision, kept_words}
use Rattle.auditing.specs.Coherence.{equal?, new?, single?}

module _ (c : List ℕ) where
  -- slots s and s' hold the same configurations for the same decision
  abbrev Equal : ℕ → ℕ → Type 0
  Equal s s' = (decision c s ≡ decision c s') × (kept_words c s ≡ kept_words c s')

  equal-T : (s s' : ℕ) → T (equal? c s s') → Equal s s'
  unfolding equal?
  equal-T s s' t =
      let p = and_T (eqb (decision c s) (decision c s')) (same_list (kept_words c s) (kept_words c s')) t in
      (eqb→eq (decision c s) (decision c s') p.0, same-list (kept_words c s) (kept_words c s') p.1)

  T-equal : (s s' : ℕ) → Equal s s' → T (equal? c s s')
  unfolding equal?
  T-equal s s' (d, k) =
      rw (d, k) (T_and (eqb (decision c s') (decision c s')) (same_list (kept_words c s') (kept_words c s')) (eqb_refl (decision c s'))
      (list_same (kept_words c s')))

  -- no two are equal, of which the first stands before the second
  apart-T : T (single? c) → (s s' : ℕ) → s < s' → s' < held c → ¬ Equal s s'
  unfolding single? new?
  apart-T t s s' l h e =
      let n = all-T (new? c) 0 (held c) t s' (omega arith) (omega arith) in
      T_not (equal? c s s') (all-T (λ (s : ℕ). not (equal? c s s')) 0 s' n s (omega arith) (omega arith)) (T-equal s s' e)

  pub single-T : T (single? c) → (s s' : ℕ) → s < held c → s' < held c → decision c s ≡ decision c s' → kept_words c s ≡ kept_words c s' → s ≡ s'
  single-T t s s' h h' d k = go (dec_lt s s') (dec_lt s' s)
    where
      go : Dec (s < s') → Dec (s' < s) → s ≡ s'
      go (yes l) m = absurd (apart-T t s s' l h' (d, k))
      go (no l) (yes m) = absurd (apart-T t s' s m h (sym d, sym k))
      go (no l) (no m) = omega arith

  pub T-single : ((s s' : ℕ) → s < held c → s' < held c → decision c s ≡ decision c s' → kept_words c s ≡ kept_words c s' → s ≡ s') → T (single? c)
  unfolding single? new?
  T-single h =
      T-all (new? c) 0 (held c) (λ s' _ l'. T-all (λ (s : ℕ). not (equal? c s s')) 0 s' (λ s _ l. not_T (equal? c s s')
      (λ t. let e = equal-T s s' t in let z = h s s' (omega arith) (omega arith) e.0 e.1 in omega arith)))
