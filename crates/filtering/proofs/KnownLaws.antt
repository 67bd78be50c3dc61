-- Whatever is answered of a pair is right, and the pair was asked.
use mathlib.Core.Path.{◌≡◌, refl, sym}
use mathlib.Core.Logic.{◌↔◌, inl, inr}
use mathlib.Core.Bool.{Bool, true, false, cond}
use mathlib.Core.List.{List}
use Prim.Native.Nat.{ℕ, ◌≤◌}
use lib.Dec.{T, eqb→eq, eqb_refl}
use lib.ListN.{length}
use Rattle.base.proofs.Booleans.{true→T, false→¬T}
use Rattle.grammar.specs.Grammar.{Grammar}
use Rattle.grammar.specs.inside.Ordered.{Ordered}
use Rattle.first_follow.specs.inside.Masks.{Masks, Closed}
use Rattle.filtering.specs.inside.Beginnings.{token_at}
use Rattle.filtering.specs.inside.Filtered.{PairEnds}
use Rattle.filtering.specs.inside.Tags.{Tag, no_end, one_end, ends, Tagged}
use Rattle.filtering.specs.inside.Cover.{Asked}
use Rattle.filtering.specs.inside.Known.{State, Holds, Reply, unknown, nowhere, only, told, known, tells, Replied}
use Rattle.filtering.proofs.AloneLaws.{alone}
use Rattle.filtering.proofs.PairLaws.{tag-none, tag_one, tag-set}

module _ {g : Grammar} {M : Masks} {w : List ℕ} (order : Ordered g) (c : Closed g M) (s : State) (I : Holds g M w s) where
  told-right : (a i : ℕ) (t : Tag) → T (s.done a i) → Tagged g M w a i t → Replied g M w s.done a i (told t)
  told-right a i no_end d x = Replied.none (inl d) (tag-none g M w a i x)
  told-right a i (one_end m b more) d x = Replied.one (inl d) (tag_one g M w a i x)
  told-right a i (ends set) d x = Replied.some (inl d) (tag-set g M w a i x)

  -- whatever is known of a pair, worked out or not
  pub known-right : (a i : ℕ) → i ≤ length w → Replied g M w s.done a i (known M w s a i)
  unfolding known
  known-right a i l = go (M.starts (token_at w i) a) refl
    where
      lone : ¬ T (M.starts (token_at w i) a) → (v : Bool) → M.empty (token_at w i) a ≡ v → Replied g M w s.done a i (cond v (only i) nowhere)
      lone n true q =
          Replied.one (inr n)
          (λ m. (λ x. sym ((alone order c a i m l n).0 x).0, λ z. (alone order c a i m l n).1 (sym z, true→T (M.empty (token_at w i) a) q)))
      lone n false q = Replied.none (inr n) (λ m x. false→¬T (M.empty (token_at w i) a) q ((alone order c a i m l n).0 x).1)

      held : T (M.starts (token_at w i) a) → (v : Bool) → s.done a i ≡ v → Replied g M w s.done a i (cond v (told (s.tag a i)) unknown)
      held t true q = told-right a i (s.tag a i) (true→T (s.done a i) q) (I a i (true→T (s.done a i) q))
      held t false q = Replied.asks (false→¬T (s.done a i) q) t

      go : (v : Bool) → M.starts (token_at w i) a ≡ v
          → Replied g M w s.done a i (cond v (cond (s.done a i) (told (s.tag a i)) unknown) (cond (M.empty (token_at w i) a) (only i) nowhere))
      go true q = held (true→T (M.starts (token_at w i) a) q) (s.done a i) refl
      go false q = lone (false→¬T (M.starts (token_at w i) a) q) (M.empty (token_at w i) a) refl

-- a pair that was asked: the reply tells its ends
pub tells-right : {g : Grammar} {M : Masks} {w : List ℕ} {done : ℕ → ℕ → Bool} {a i : ℕ} {r : Reply} → Replied g M w done a i r → Asked M w done a i
    → (n : ℕ) → T (tells r n) ↔ PairEnds g M w a i n
tells-right (Replied.asks d t) (inl x) n = absurd (d x)
tells-right (Replied.asks d t) (inr x) n = absurd (x t)
tells-right (Replied.none a h) b n = (λ t. absurd t, λ x. h n x)
tells-right (Replied.one {n = m} a h) b n = (λ t. (h n).1 (eqb→eq n m t), λ x. rw ((h n).0 x) (eqb_refl m))
tells-right (Replied.some a h) b n = (λ t. (h n).1 t, λ x. (h n).0 x)
