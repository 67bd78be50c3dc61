-- The position where a note that is no sentence goes wrong is the last one at which it reaches a place.
use mathlib.Core.Path.{◌≡◌, refl}
use mathlib.Core.Logic.{◌↔◌, ◌⊎◌, inl, inr}
use mathlib.Core.Bool.{Bool, true, false}
use mathlib.Core.Option.{some}
use mathlib.Core.List.{List}
use Prim.Native.Nat.{ℕ, zero, suc, ◌-◌, ◌≤◌, ◌<◌}
use native.Mathlib.Omega.{arith}
use native.Mathlib.Decide.{dec_le, dec_lt}
use lib.Dec.{T}
use lib.ListN.{length, get_elem?}
use Rattle.base.specs.Rounds.{any_of, up_from}
use Rattle.base.proofs.Booleans.{clash, or-T, T-or-l, T-or-r, true→T, false→¬T}
use Rattle.base.proofs.Lists.{any_of-T, T-any_of, up_from-get}
use Rattle.grammar.specs.Grammar.{Grammar, alternatives, first, of_places}
use Rattle.grammar.proofs.GrammarLaws.{first_pos, no-alternatives}
use Rattle.grammar.proofs.GrammarLaws.{faces-place}
use Rattle.derivation.specs.Viable.{Sentence, WrongAt}
use Rattle.derivation.specs.inside.Reach.{Rich, Reach, start, match, call, return, Arrives}
use Rattle.derivation.specs.ReachRounds.{reach?, arrives?, highest_to, wrong_place}
use Rattle.derivation.proofs.ViableLaws.{viable-iff, wrong-unique}
use Rattle.derivation.proofs.ReachRoundsLaws.{reach-iff}

-- ---- something is reached after k tokens
module _ (g : Grammar) where
  -- the numbers that can be reached: places and the number behind them, and the first places of productions
  Reachable : ℕ → Type 0
  Reachable p = (p ≤ length g.places) ⊎ ((a : ℕ) × (b : ℕ) × (first g a b ≡ some p))

  reachable : {w : List ℕ} {p i : ℕ} → Reach g w p i → Reachable p
  unfolding Reachable
  reachable (start b e) = inr (0, b, e)
  reachable (match {p = p} x e d a) = inl (faces-place g p (λ z. clash (cc)))
  reachable (call {a = a} b x e d) = inr (a, b, d)
  reachable (return {p = p} b x e d y) = inl (faces-place g p (λ z. clash (cc)))

  -- a nonterminal that has a production is one of the grammar's
  has_first : (a b f : ℕ) → first g a b ≡ some f → a < length g.starts
  has_first a b f e = go (dec_lt a (length g.starts)) (first_pos g a b f e)
    where
      go : Dec (a < length g.starts) → (n : ℕ) × (get_elem? (alternatives g a) n ≡ some f) → a < length g.starts
      go (yes l) h = l
      go (no l) (n, d) = let z = no-alternatives g a (omega arith) in clash (cc)

module _ (g : Grammar) (w : List ℕ) (k : ℕ) where
  abbrev by_places : Bool
  by_places = any_of (λ p. reach? g w p k) (up_from 0 (suc (length g.places)))

  abbrev by_firsts : Bool
  by_firsts = any_of (λ a. any_of (λ f. reach? g w f k) (alternatives g a)) (up_from 0 (length g.starts))

  arrives_in : (p : ℕ) → T (reach? g w p k) → Reachable g p → T (arrives? g w k)
  unfolding arrives? Reachable
  arrives_in p t (inl l) =
      T-or-l by_places by_firsts
      (T-any_of (λ p. reach? g w p k) (up_from 0 (suc (length g.places))) (p - 0) (up_from-get (suc (length g.places)) 0 p (omega arith) (omega arith)) t)
  arrives_in p t (inr (a, b, e)) =
      let l = has_first g a b p e in
      let h = first_pos g a b p e in
      T-or-r by_places by_firsts
      (T-any_of (λ a. any_of (λ f. reach? g w f k) (alternatives g a)) (up_from 0 (length g.starts)) (a - 0)
      (up_from-get (length g.starts) 0 a (omega arith) (omega arith)) (T-any_of (λ f. reach? g w f k) (alternatives g a) h.0 h.1 t))

  arrives-out : T by_places ⊎ T by_firsts → Arrives g w k
  arrives-out (inl t) = let (n, p, e, s) = any_of-T (λ p. reach? g w p k) (up_from 0 (suc (length g.places))) t in (p, (reach-iff g w p k).0 s)
  arrives-out (inr t) =
      let (n, a, e, s) = any_of-T (λ a. any_of (λ f. reach? g w f k) (alternatives g a)) (up_from 0 (length g.starts)) t in
      let (m, f, d, u) = any_of-T (λ f. reach? g w f k) (alternatives g a) s in
      (f, (reach-iff g w f k).0 u)

  pub arrives-iff : T (arrives? g w k) ↔ Arrives g w k
  unfolding arrives?
  arrives-iff = (λ t. arrives-out (or-T by_places by_firsts t), λ h. arrives_in h.0 ((reach-iff g w h.0 k).1 h.1) (reachable g h.1))

-- ---- the highest number that passes a test
abbrev pub Highest : (ℕ → Bool) → ℕ → ℕ → Type 0
Highest p n k = (k ≤ n) × T (p k) × ((c : ℕ) → k < c → c ≤ n → ¬ T (p c))

pub highest-is : (p : ℕ → Bool) (n : ℕ) → T (p 0) → Highest p n (highest_to p n)
unfolding highest_to
highest-is p zero t = (omega arith, t, λ c l h s. absurd (omega arith))
highest-is p (suc n) t = go (p (suc n)) refl (highest-is p n t)
  where
    top : p (suc n) ≡ false → (c : ℕ) → c ≤ suc n → ¬ (c ≤ n) → ¬ T (p c)
    top e c l h = let z : c ≡ suc n = omega arith in rw z (false→¬T (p (suc n)) e)

    go : (b : Bool) → p (suc n) ≡ b → Highest p n (highest_to p n) → Highest p (suc n) (elim b [ true ↦ suc n | false ↦ highest_to p n ])
    go true e rec = (omega arith, true→T (p (suc n)) e, λ c l h s. absurd (omega arith))
    go false e (l, s, h) = (omega arith, s, λ c m m'. elim (dec_le c n) [ yes y ↦ h c m y | no y ↦ top e c m' y ])

-- ---- a note that is no sentence, of a grammar in which the start symbol has a production and what is left of every production derives something
module _ (g : Grammar) (w : List ℕ) (rich : Rich g) (b : ℕ) {f : ℕ} (e : first g 0 b ≡ some f) where
  pub wrong-place : ¬ Sentence (of_places g) w → WrongAt (of_places g) w (wrong_place g w)
  unfolding wrong_place
  wrong-place n = go (highest_to (arrives? g w) (length w)) (highest-is (arrives? g w) (length w) ((arrives-iff g w 0).1 (f, start b e)))
    where
      go : (k : ℕ) → Highest (arrives? g w) (length w) k → WrongAt (of_places g) w k
      go k (l, t, h) = record {
        no-sentence = n;
        inside = l;
        begins = (viable-iff g w k l rich).1 ((arrives-iff g w k).0 t);
        ends = λ m v. h (suc k) (omega arith) m ((arrives-iff g w (suc k)).1 ((viable-iff g w (suc k) m rich).0 v));
      }

  -- and it goes wrong nowhere else
  pub wrong-is : (k : ℕ) → WrongAt (of_places g) w k → k ≡ wrong_place g w
  wrong-is k x = wrong-unique x (wrong-place x.no-sentence)
