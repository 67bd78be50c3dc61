-- E1: a stack reads the rest in two ways exactly if at some expansion of one of them another alternative serves; and what tags say of that.
use mathlib.Core.Path.{◌≡◌, refl, sym, ap, ◌∙◌}
use mathlib.Core.Logic.{◌↔◌, ◌⊎◌, inl, inr}
use mathlib.Core.Bool.{Bool}
use mathlib.Core.Option.{some}
use mathlib.Core.List.{List, [], ◌∷◌}
use Prim.Native.Nat.{ℕ, suc}
use lib.Dec.{T}
use lib.ListN.{length}
use Rattle.base.proofs.Bits.{same?}
use Rattle.grammar.specs.Grammar.{Grammar, first}
use Rattle.grammar.specs.inside.Ordered.{Ordered}
use Rattle.derivation.specs.Runs.{Run, Opens, Serves}
use Rattle.derivation.proofs.RunLaws.{run_end, run-token, run-over_call}
use Rattle.first_follow.specs.inside.Masks.{Masks, Closed}
use Rattle.filtering.specs.inside.Filtered.{EndsBy}
use Rattle.filtering.specs.inside.OpenStacks.{Open}
use Rattle.filtering.specs.inside.Tags.{one_end, one, Tagged}
use Rattle.filtering.specs.inside.Serving.{Second, here, finish, match, expand}
use Rattle.filtering.proofs.SingleLaws.{serves_by}

module _ {g : Grammar} {w : List ℕ} where
  run_none : {i j : ℕ} {r : List ℕ} → Run g w [] i j r → r ≡ []
  run_none (Run.done l) = refl

  -- another run of the same stack
  pub run-second : {S : List ℕ} {i j : ℕ} {r : List ℕ} → Run g w S i j r → j ≡ length w → (s : List ℕ) → Run g w S i j s → (r ≡ s) ⊎ Second g w S i r
  run-second (Run.done l) n s y = inl (sym (run_none y))
  run-second (Run.finish {p = p} {S = S} {i = i} {r = r} e h) n s y = go (run-second h n s (run_end y e))
    where
      go : (r ≡ s) ⊎ Second g w S i r → (r ≡ s) ⊎ Second g w (p ∷ S) i r
      go (inl q) = inl q
      go (inr x) = inr (finish e x)
  run-second (Run.match {p = p} {S = S} {i = i} {r = r} e d a h) n s y = go (run-second h n s (run-token y e).3)
    where
      go : (r ≡ s) ⊎ Second g w (suc p ∷ S) (suc i) r → (r ≡ s) ⊎ Second g w (p ∷ S) i r
      go (inl q) = inl q
      go (inr x) = inr (match e d a x)
  run-second (Run.expand {p = p} {a = a} {b = b} {f = f} {S = S} {i = i} {j = j} {r = r} e d h) n s y =
      go (run-over_call y e) (λ s' y'. run-second h n s' y')
    where
      other : (c : ℕ) (s' : List ℕ) (f' : ℕ) → first g a c ≡ some f' → Run g w (f' ∷ suc p ∷ S) i j s' → ¬ (c ≡ b) → (b ∷ r ≡ s) ⊎ Second g w (p ∷ S) i (b ∷ r)
      other c s' f' d' y' k = inr (here c e k (f', d', (s', rw n at y')))

      same-one : (c : ℕ) (s' : List ℕ) → c ≡ b → s ≡ c ∷ s' → (r ≡ s') ⊎ Second g w (f ∷ suc p ∷ S) i r → (b ∷ r ≡ s) ⊎ Second g w (p ∷ S) i (b ∷ r)
      same-one c s' k q (inl z) = inl (rw (z, q, k))
      same-one c s' k q (inr x) = inr (expand e d x)

      go : (c : ℕ) × (s' : List ℕ) × (f' : ℕ) × (first g a c ≡ some f') × Run g w (f' ∷ suc p ∷ S) i j s' × (s ≡ c ∷ s')
          → ((s' : List ℕ) → Run g w (f ∷ suc p ∷ S) i j s' → (r ≡ s') ⊎ Second g w (f ∷ suc p ∷ S) i r) → (b ∷ r ≡ s) ⊎ Second g w (p ∷ S) i (b ∷ r)
      go (c, s', f', d', y', q) rec = cases (same? c b)
        where
          cases : (c ≡ b) ⊎ (c ≡ b → ⊥) → (b ∷ r ≡ s) ⊎ Second g w (p ∷ S) i (b ∷ r)
          cases (inl k) = let z : some f' ≡ some f = sym d' ∙ (ap (first g a) k ∙ d) in let z' : f' ≡ f = cc in same-one c s' k q (rec s' (rw z' at y'))
          cases (inr k) = other c s' f' d' y' k

  -- and back: there is another run
  pub second_run : {S : List ℕ} {i : ℕ} {r : List ℕ} → Second g w S i r → (s : List ℕ) × Run g w S i (length w) s × ¬ (s ≡ r)
  second_run (here c e n (f, d, (s, x))) = (c ∷ s, Run.expand e d x, λ q. n (cc))
  second_run (finish e x) = let (s, y, n) = second_run x in (s, Run.finish e y, n)
  second_run (match e d a x) = let (s, y, n) = second_run x in (s, Run.match e d a y, n)
  second_run (expand {b = b} e d x) = let (s, y, n) = second_run x in (b ∷ s, Run.expand e d y, λ q. n (cc))

-- ---- a single end: its tag says whether another alternative serves
pub single-second : {g : Grammar} {M : Masks} {w : List ℕ} (order : Ordered g) (c : Closed g M) {S : List ℕ} (a i : ℕ) → Open g a S
    → (m b : ℕ) (more : Bool) → Tagged g M w a i (one_end m b more) → Opens g w S m → T more ↔ ((k : ℕ) × Serves g w S a i k × ¬ (k ≡ b))
single-second {g} {M} {w} order c {S} a i o m b more (one p u e) y = (to, from)
  where
    to : T more → (k : ℕ) × Serves g w S a i k × ¬ (k ≡ b)
    to t = let (k, x, n) = e.0 t in (k, (serves_by order c a i o k).1 (m, x, y), n)

    at-end : (k n : ℕ) → EndsBy g M w a i k n → n ≡ m → EndsBy g M w a i k m
    at-end k n x q = rw q at x

    from : (k : ℕ) × Serves g w S a i k × ¬ (k ≡ b) → T more
    from (k, s, h) = let (n, x, z) = (serves_by order c a i o k).0 s in e.1 (k, at-end k n x (u k n x).0, h)
