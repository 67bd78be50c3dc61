-- One step to a point, in facts: the one type in which the Booleans of a round of reaching are taken apart and put together.
use mathlib.Core.Path.{◌≡◌, refl, sym}
use mathlib.Core.Logic.{◌⊎◌, inl, inr}
use mathlib.Core.Bool.{Bool, ◌||◌}
use mathlib.Core.Option.{Option, none, some}
use mathlib.Core.List.{List}
use Prim.Native.Nat.{ℕ, zero, suc, ◌-◌}
use native.Mathlib.Omega.{arith}
use lib.Dec.{T, eqb, eqb→eq, eqb_refl}
use lib.ListN.{length, get_elem?}
use Rattle.base.specs.Rounds.{any_of, up_from}
use Rattle.base.proofs.Booleans.{clash, and_T, T_and, or-T, T-or-l, T-or-r}
use Rattle.base.proofs.Lists.{Found, any_of-T, T-any_of, up_from-get}
use Rattle.base.proofs.Fixpoint.{Within}
use Rattle.grammar.specs.declared.Symbol.{Symbol}
use Rattle.grammar.specs.declared.Symbol.TheVariants.{Token, Nonterminal, End}
use Rattle.grammar.specs.Grammar.{Grammar, facing, admits, alternatives, first}
use Rattle.grammar.proofs.GrammarLaws.{faces-place}
use Rattle.derivation.specs.Cells.{derives?}
use Rattle.derivation.specs.ReachRounds.{Point, point, opens?, by_start, over_token, by_match, over_stretch, over, by_place, into_call, by_call, stepped}
use Rattle.derivation.proofs.RunLaws.{der-le}
use Rattle.derivation.proofs.CellLaws.{derives-sound}

-- the ways to place q at position j: none before it, or one step from a point of X
pub data ReachedBy (g : Grammar) (w : List ℕ) (X : Point → Bool) (q j : ℕ) : Type 0 where
  start : (b : ℕ) → first g 0 b ≡ some q → j ≡ 0 → ReachedBy g w X q j
  match : {p k t i : ℕ} → q ≡ suc p → j ≡ suc i → facing g p ≡ Token k → get_elem? w i ≡ some t → T (admits g k t) → T (X (point p i))
      → ReachedBy g w X q j
  call : {a : ℕ} (p b : ℕ) → facing g p ≡ Nonterminal a → first g a b ≡ some q → T (X (point p j)) → ReachedBy g w X q j
  return : {p a f : ℕ} (i b : ℕ) → q ≡ suc p → facing g p ≡ Nonterminal a → first g a b ≡ some f → T (derives? g w f i j)
      → T (X (point p i))
      → ReachedBy g w X q j

-- ---- first places of productions
opens_in : (g : Grammar) (a b f : ℕ) → first g a b ≡ some f → T (opens? g a f)
unfolding opens?
opens_in g a zero f e = clash (cc)
opens_in g a (suc n) f e = T-any_of (eqb f) (alternatives g a) n e (eqb_refl f)

opens-out : (g : Grammar) (a f : ℕ) → T (opens? g a f) → (b : ℕ) × (first g a b ≡ some f)
unfolding opens?
opens-out g a f t = let (n, x, e, s) = any_of-T (eqb f) (alternatives g a) t in let z : x ≡ f = sym (eqb→eq f x s) in (suc n, rw z at e)

module _ (g : Grammar) (w : List ℕ) (X : Point → Bool) where
  -- ---- together: a way makes its test say yes
  start-in : (b q j : ℕ) → first g 0 b ≡ some q → j ≡ 0 → T (by_start g q j)
  unfolding by_start
  start-in b q j e z = rw z (opens_in g 0 b q e)

  match-in : (p i : ℕ) {k t : ℕ} → facing g p ≡ Token k → get_elem? w i ≡ some t → T (admits g k t) → T (X (point p i))
      → T (by_place g w X (suc p) (suc i))
  unfolding by_place
  match-in p i {k} {t} e d a x = rw (e, d) (T_and (admits g k t) (X (point p i)) a x)

  stretch-in : (p j f i : ℕ) → T (derives? g w f i j) → T (X (point p i)) → T (any_of (over_stretch g w X p j f) (up_from 0 (suc j)))
  unfolding over_stretch
  stretch-in p j f i x y =
      let l = der-le (derives-sound g w x).1 in
      T-any_of (over_stretch g w X p j f) (up_from 0 (suc j)) (i - 0) (up_from-get (suc j) 0 i (omega arith) (omega arith))
      (T_and (derives? g w f i j) (X (point p i)) x y)

  return-in : (p i b j : ℕ) {a f : ℕ} → facing g p ≡ Nonterminal a → first g a b ≡ some f → T (derives? g w f i j) → T (X (point p i))
      → T (by_place g w X (suc p) j)
  unfolding by_place
  return-in p i zero j e d x y = clash (cc)
  return-in p i (suc n) j {a} {f} e d x y =
      rw e (T-any_of (λ f. any_of (over_stretch g w X p j f) (up_from 0 (suc j))) (alternatives g a) n d (stretch-in p j f i x y))

  call-in : (p b q j : ℕ) {a : ℕ} → facing g p ≡ Nonterminal a → first g a b ≡ some q → T (X (point p j)) → T (by_call g w X q j)
  unfolding by_call
  call-in p b q j {a} e d x =
      let l = faces-place g p (λ z. clash (cc)) in
      T-any_of (λ p. into_call g w X q j p (facing g p)) (up_from 0 (length g.places)) (p - 0) (up_from-get (length g.places) 0 p (omega arith) (omega arith))
      (rw e (T_and (opens? g a q) (X (point p j)) (opens_in g a b q d) x))

  module _ (q j : ℕ) where
    or-start : T (by_start g q j) → T (stepped g w X (point q j))
    unfolding stepped
    or-start t = T-or-l (by_start g q j) (by_place g w X q j || by_call g w X q j) t

    or-place : T (by_place g w X q j) → T (stepped g w X (point q j))
    unfolding stepped
    or-place t = T-or-r (by_start g q j) (by_place g w X q j || by_call g w X q j) (T-or-l (by_place g w X q j) (by_call g w X q j) t)

    or-call : T (by_call g w X q j) → T (stepped g w X (point q j))
    unfolding stepped
    or-call t = T-or-r (by_start g q j) (by_place g w X q j || by_call g w X q j) (T-or-r (by_place g w X q j) (by_call g w X q j) t)

  pub step_in : (q j : ℕ) → ReachedBy g w X q j → T (stepped g w X (point q j))
  step_in q j (start b e z) = or-start q j (start-in b q j e z)
  step_in q j (match {p = p} {i = i} z y e d a x) = rw (z, y) (or-place (suc p) (suc i) (match-in p i e d a x))
  step_in q j (call p b e d x) = or-call q j (call-in p b q j e d x)
  step_in q j (return {p = p} i b z e d y x) = rw z (or-place (suc p) j (return-in p i b j e d y x))

  -- ---- apart: a test that says yes has a way
  start-out : (q j : ℕ) → T (by_start g q j) → ReachedBy g w X q j
  unfolding by_start
  start-out q zero t = let h = opens-out g 0 q t in start h.0 h.1 refl
  start-out q (suc j) t = absurd t

  match-out : (p k j : ℕ) → facing g p ≡ Token k → T (by_match g w X p k j) → ReachedBy g w X (suc p) j
  unfolding by_match
  match-out p k zero e t = absurd t
  match-out p k (suc i) e t = go (get_elem? w i) refl t
    where
      go : (o : Option ℕ) → get_elem? w i ≡ o → T (over_token g w X p k i o) → ReachedBy g w X (suc p) (suc i)
      go none d t = absurd t
      go (some u) d t = let h = and_T (admits g k u) (X (point p i)) t in match refl refl e d h.0 h.1

  return-out : (p a j : ℕ) → facing g p ≡ Nonterminal a → Found (λ f. any_of (over_stretch g w X p j f) (up_from 0 (suc j))) (alternatives g a)
      → ReachedBy g w X (suc p) j
  unfolding over_stretch
  return-out p a j e (b, f, d, t) =
      let (n, i, q, s) = any_of-T (over_stretch g w X p j f) (up_from 0 (suc j)) t in
      let h = and_T (derives? g w f i j) (X (point p i)) s in
      return i (suc b) refl e d h.0 h.1

  place_out : (q j : ℕ) → T (by_place g w X q j) → ReachedBy g w X q j
  unfolding by_place
  place_out zero j t = absurd t
  place_out (suc p) j t = go (facing g p) refl t
    where
      go : (s : Symbol) → facing g p ≡ s → T (over g w X p j s) → ReachedBy g w X (suc p) j
      go (Token k) e t = match-out p k j e t
      go (Nonterminal a) e t = return-out p a j e (any_of-T _ (alternatives g a) t)
      go End e t = absurd t

  call-out : (q j : ℕ) → T (by_call g w X q j) → ReachedBy g w X q j
  unfolding by_call
  call-out q j t =
      let (n, p, d, s) = any_of-T (λ p. into_call g w X q j p (facing g p)) (up_from 0 (length g.places)) t in go p (facing g p) refl s
    where
      go : (p : ℕ) (s : Symbol) → facing g p ≡ s → T (into_call g w X q j p s) → ReachedBy g w X q j
      go p (Token k) e t = absurd t
      go p (Nonterminal a) e t =
          let h = and_T (opens? g a q) (X (point p j)) t in let o = opens-out g a q h.0 in call p o.0 e o.1 h.1
      go p End e t = absurd t

  pub step-out : (q j : ℕ) → T (stepped g w X (point q j)) → ReachedBy g w X q j
  unfolding stepped
  step-out q j t = go (or-T (by_start g q j) (by_place g w X q j || by_call g w X q j) t)
    where
      go₂ : T (by_place g w X q j) ⊎ T (by_call g w X q j) → ReachedBy g w X q j
      go₂ (inl t) = place_out q j t
      go₂ (inr t) = call-out q j t

      go : T (by_start g q j) ⊎ T (by_place g w X q j || by_call g w X q j) → ReachedBy g w X q j
      go (inl t) = start-out q j t
      go (inr t) = go₂ (or-T (by_place g w X q j) (by_call g w X q j) t)

-- ---- more points lead to more
step-mono : {g : Grammar} {w : List ℕ} {X Y : Point → Bool} {q j : ℕ} → Within X Y → ReachedBy g w X q j → ReachedBy g w Y q j
step-mono h (start b e z) = start b e z
step-mono h (match z y e d a x) = match z y e d a (h _ x)
step-mono h (call p b e d x) = call p b e d (h _ x)
step-mono h (return i b z e d y x) = return i b z e d y (h _ x)

pub stepped-mono : (g : Grammar) (w : List ℕ) (X Y : Point → Bool) → Within X Y → Within (stepped g w X) (stepped g w Y)
stepped-mono g w X Y h c t = step_in g w Y c.place c.at (step-mono h (step-out g w X c.place c.at t))
