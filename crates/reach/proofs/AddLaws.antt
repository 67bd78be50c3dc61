-- Points added to the sets: one set that joins that of a place, one point, and one lot of points after another.
use mathlib.Core.Path.{◌≡◌, refl, sym, ap, ◌∙◌}
use mathlib.Core.Logic.{◌⊎◌, inl, inr, ⊎_elim}
use mathlib.Core.Bool.{Bool, true, false, ◌||◌, true≢false, false≢true}
use mathlib.Core.List.{List}
use Prim.Native.Nat.{ℕ, ◌+◌, ◌*◌, ◌≤◌, ◌<◌}
use native.Mathlib.Omega.{arith}
use native.Mathlib.Decide.{dec_lt}
use lib.Dec.{T, eqb, eqb→eq, eqb_refl}
use lib.ListN.{length}
use Rattle.base.proofs.Booleans.{or-T, T-or-l, T-or-r, true→T}
use Rattle.base.proofs.Bits.{same?}
use Rattle.grammar.specs.Limits.{max_places}
use Rattle.positions.specs.inside.Positions.{position_count, set_words, empty_set, member, with_of}
use Rattle.positions.specs.inside.Words.{member_at, total, Joined}
use Rattle.positions.proofs.SetLaws.{member-empty, member-with}
use Rattle.positions.proofs.WordLaws.{joined_same, joined-other}
use Rattle.reach.specs.inside.Sets.{sets_words, PointInside, stands, Added, PointOf}

-- ---- the sets of two places share no word
apart : (q p : ℕ) → (p ≡ q → ⊥) → (set_words * p + set_words ≤ set_words * q) ⊎ (set_words * q + set_words ≤ set_words * p)
apart q p n = go (dec_lt p q)
  where
    go : Dec (p < q) → (set_words * p + set_words ≤ set_words * q) ⊎ (set_words * q + set_words ≤ set_words * p)
    go (yes l) = inl (omega arith)
    go (no l) = inr (omega arith)

-- ---- a set joins that of place q
-- what then stands at place p at position j: what stood there, and at place q the members of s too
abbrev Then : List ℕ → List ℕ → ℕ → List ℕ → ℕ → ℕ → Type 0
Then ws after q s p j = (stands after p j ≡ stands ws p j) ⊎ ((p ≡ q) × (stands after p j ≡ (stands ws p j || member s j)))

module _ {r : Bool} {ws after : List ℕ} {q : ℕ} {s : List ℕ} (long : length ws ≡ sets_words) (l : q < max_places)
    (h : Joined r ws after (set_words * q) s) where
  joins : (p j : ℕ) → PointInside p j → (p ≡ q) ⊎ (p ≡ q → ⊥) → Then ws after q s p j
  unfolding stands
  joins p j (_, m) (inl e) = inr (e, rw e (joined_same h j m (omega arith)))
  joins p j (_, m) (inr n) = inl (joined-other h (set_words * p) j m (apart q p n))

  joins-kept : (p j : ℕ) → Then ws after q s p j → T (stands ws p j) → T (stands after p j)
  joins-kept p j (inl e) t = rw e t
  joins-kept p j (inr (_, e)) t = rw e (T-or-l (stands ws p j) (member s j) t)

  joins-held : (p j : ℕ) → PointInside p j → p ≡ q → T (member s j) → T (stands after p j)
  unfolding stands
  joins-held p j (_, m) e t = rw (e, joined_same h j m (omega arith)) (T-or-r (member_at ws (set_words * q) j) (member s j) t)

  joins-only : (p j : ℕ) → Then ws after q s p j → T (stands after p j) → T (stands ws p j) ⊎ ((p ≡ q) × T (member s j))
  joins-only p j (inl e) t = inl (rw e at t)
  joins-only p j (inr (z, e)) t = ⊎_elim (λ u. inl u) (λ u. inr (z, u)) (or-T (stands ws p j) (member s j) (rw e at t))

  pub join-adds : Added (λ p j. (p ≡ q) × T (member s j)) r ws after
  join-adds =
      record {
        kept = λ p j i. joins-kept p j (joins p j i (same? p q));
        held = λ p j i x. joins-held p j i x.0 x.1;
        only = λ p j i. joins-only p j (joins p j i (same? p q));
        same = h.same;
        grown = h.grown;
      }

-- ---- other words for the points that are added
pub added-as : {P Q : ℕ → ℕ → Type 0} {r : Bool} {ws after : List ℕ} → ((p j : ℕ) → PointInside p j → P p j → Q p j)
    → ((p j : ℕ) → PointInside p j → Q p j → P p j)
    → Added P r ws after → Added Q r ws after
added-as to from h =
    record {
      kept = h.kept;
      held = λ p j i x. h.held p j i (from p j i x);
      only = λ p j i t. ⊎_elim (λ u. inl u) (λ u. inr (to p j i u)) (h.only p j i t);
      same = h.same;
      grown = h.grown;
    }

-- ---- one point
one_out : (i j : ℕ) → j < position_count → i < position_count → T (member (with_of empty_set i) j) → j ≡ i
one_out i j l m t = eqb→eq j i (rw (member-with empty_set i j (omega arith), member-empty j) at t)

one_in : (i j : ℕ) → i < position_count → j ≡ i → T (member (with_of empty_set i) j)
one_in i j m e = rw (e, member-with empty_set i i (omega arith)) (T-or-r (member empty_set i) (eqb i i) (eqb_refl i))

pub mark-adds : {r : Bool} {ws after : List ℕ} {q i : ℕ} {e s : List ℕ} → length ws ≡ sets_words → q < max_places → i < position_count → e
    ≡ empty_set → s ≡ with_of e i
    → Joined r ws after (set_words * q) s → Added (PointOf q i) r ws after
mark-adds {q = q} {i = i} {e = e} {s = s} long l m z y h =
    added-as (λ p j x u. (u.0, one_out i j x.1 m (rw (y, z) at u.1))) (λ p j x u. (u.0, rw (y, z) (one_in i j m u.1))) (join-adds long l h)

-- ---- nothing is added
-- a point that the sets hold already
pub mark-held : (q i : ℕ) (ws : List ℕ) {b : Bool} → b ≡ member_at ws (set_words * q) i → b ≡ true → Added (PointOf q i) false ws ws
unfolding stands
mark-held q i ws {b} e t =
    record {
      kept = λ p j o u. u;
      held = λ p j o x. rw (x.0, x.1) (true→T (member_at ws (set_words * q) i) (sym e ∙ t));
      only = λ p j o u. inl u;
      same = λ _. refl;
      grown = λ z. absurd (false≢true z);
    }

pub none-added : {P : ℕ → ℕ → Type 0} (ws : List ℕ) → ((p j : ℕ) → P p j → ⊥) → Added P false ws ws
none-added ws n =
    record {
      kept = λ p j i t. t;
      held = λ p j i x. absurd (n p j x);
      only = λ p j i t. inl t;
      same = λ _. refl;
      grown = λ t. absurd (false≢true t);
    }

-- ---- one lot after another
pub added-rises : {P : ℕ → ℕ → Type 0} {r : Bool} {ws after : List ℕ} → Added P r ws after → total ws ≤ total after
added-rises {r = r} {ws = ws} {after = after} h = go r refl
  where
    go : (t : Bool) → r ≡ t → total ws ≤ total after
    go true e = omega (arith, h.grown e)
    go false e = omega (arith, ap total (h.same e))

module _ {P Q : ℕ → ℕ → Type 0} {r s : Bool} {a b c : List ℕ} (h : Added P r a b) (k : Added Q s b c) where
  both-same : (t u : Bool) → r ≡ t → s ≡ u → (t || u) ≡ false → c ≡ a
  both-same true u e d z = absurd (true≢false z)
  both-same false true e d z = absurd (true≢false z)
  both-same false false e d z = k.same d ∙ h.same e

  both-grown : (t u : Bool) → r ≡ t → s ≡ u → (t || u) ≡ true → total a < total c
  both-grown true u e d z = omega (arith, h.grown e, added-rises k)
  both-grown false true e d z = omega (arith, k.grown d, added-rises h)
  both-grown false false e d z = absurd (false≢true z)

  pub both-added : Added (λ p j. P p j ⊎ Q p j) (r || s) a c
  both-added =
      record {
        kept = λ p j i t. k.kept p j i (h.kept p j i t);
        held = λ p j i x. ⊎_elim (λ u. k.kept p j i (h.held p j i u)) (λ u. k.held p j i u) x;
        only = λ p j i t. ⊎_elim (λ u. ⊎_elim (λ v. inl v) (λ v. inr (inl v)) (h.only p j i u)) (λ u. inr (inr u)) (k.only p j i t);
        same = both-same r s refl refl;
        grown = both-grown r s refl refl;
      }

-- the flag of two lots
pub or-true : (r s : Bool) → r ≡ true → (r || s) ≡ r
or-true true s e = refl
or-true false s e = absurd (false≢true e)

pub or-second : (r s : Bool) → s ≡ true → (r || s) ≡ true
or-second true s e = refl
or-second false s e = e

pub or-first : (r s : Bool) → s ≡ false → (r || s) ≡ r
or-first true s e = refl
or-first false s e = e
