-- B1 to B4: the ends of a place, symbol by symbol, from one position and from a set of positions.
use mathlib.Core.Path.{◌≡◌, refl}
use mathlib.Core.Logic.{◌↔◌}
use mathlib.Core.List.{List, []}
use Prim.Native.Nat.{ℕ, suc, ◌≤◌, ◌<◌}
use lib.Dec.{T}
use lib.ListN.{length}
use Rattle.base.proofs.Booleans.{clash}
use Rattle.base.proofs.Lists.{get-get_or}
use Rattle.grammar.specs.declared.Symbol.TheVariants.{Token, Nonterminal, End}
use Rattle.grammar.specs.Limits.{end_mark}
use Rattle.grammar.specs.Grammar.{Grammar, facing, admits}
use Rattle.derivation.proofs.RunLaws.{der-le}
use Rattle.first_follow.specs.inside.Masks.{Masks}
use Rattle.filtering.specs.inside.Beginnings.{token_at}
use Rattle.filtering.specs.inside.Filtered.{DerF, Ends, PairEnds, Over, token, call, EndsFrom, Leads}
use Rattle.filtering.proofs.StartLaws.{admits-at}
use Rattle.filtering.proofs.FilterLaws.{der_f-der}

module _ {g : Grammar} {M : Masks} {w : List ℕ} where
  -- ---- a filtered derivation by what its place faces
  der_f-token : {p k i j : ℕ} {r : List ℕ} → DerF g M w p i j r → facing g p ≡ Token k → T (admits g k (token_at w i)) × DerF g M w (suc p) (suc i) j r
  der_f-token (DerF.finish d h) e = clash (cc)
  der_f-token {k = k} (DerF.match {k = k'} {i = i} d h t x) e = let z : k' ≡ k = cc in (admits-at g w i k h (rw z at t), x)
  der_f-token (DerF.expand d h x f y) e = clash (cc)

  der_f-end : {p i j : ℕ} {r : List ℕ} → DerF g M w p i j r → facing g p ≡ End → i ≡ j
  der_f-end (DerF.finish d h) e = refl
  der_f-end (DerF.match d h t x) e = clash (cc)
  der_f-end (DerF.expand d h x f y) e = clash (cc)

  der_f-call : {p a i j : ℕ} {r : List ℕ} → DerF g M w p i j r → facing g p ≡ Nonterminal a → (m : ℕ) × PairEnds g M w a i m × Ends g M w (suc p) m j
  der_f-call (DerF.finish d h) e = clash (cc)
  der_f-call (DerF.match d h t x) e = clash (cc)
  der_f-call {a = a} (DerF.expand {a = a'} {b = b} {f = f} {m = m} {r = r₁} {s = r₂} d h x t y) e =
      let z : a' ≡ a = cc in (m, (b, (f, rw z at h, (r₁, x), rw z at t)), (r₂, y))

  -- ---- ends lie between where they begin and the note's end
  pub pair-le : {i m : ℕ} (a : ℕ) → PairEnds g M w a i m → i ≤ m
  pair-le a (b, (f, d, (r, x), h)) = der-le (der_f-der x)

  -- ---- one position
  -- B1: a token that may stand here
  pub ends-token : {p k i j : ℕ} → facing g p ≡ Token k → i < length w → T (admits g k (token_at w i)) → Ends g M w p i j ↔ Ends g M w (suc p) (suc i) j
  ends-token {p} {k} {i} {j} e l q = (to, from)
    where
      to : Ends g M w p i j → Ends g M w (suc p) (suc i) j
      to (r, x) = (r, (der_f-token x e).1)

      from : Ends g M w (suc p) (suc i) j → Ends g M w p i j
      from (r, x) = (r, DerF.match e (get-get_or w i end_mark l) q x)

  -- B2: one that may not
  pub ends-other : {p k i j : ℕ} → facing g p ≡ Token k → ¬ T (admits g k (token_at w i)) → ¬ Ends g M w p i j
  ends-other e n (r, x) = n (der_f-token x e).0

  -- B3: the end of the production
  pub ends-end : {p i j : ℕ} → facing g p ≡ End → i ≤ length w → Ends g M w p i j ↔ (i ≡ j)
  ends-end {p} {i} {j} e l = (to, λ q. rw (← q) stop)
    where
      stop : Ends g M w p i i
      stop = ([], DerF.finish e l)

      to : Ends g M w p i j → i ≡ j
      to (r, x) = der_f-end x e

  -- B4: a nonterminal
  ends-call : {p a i j : ℕ} → facing g p ≡ Nonterminal a → Ends g M w p i j ↔ ((m : ℕ) × PairEnds g M w a i m × Ends g M w (suc p) m j)
  ends-call {p} {a} {i} {j} e = (to, from)
    where
      to : Ends g M w p i j → (m : ℕ) × PairEnds g M w a i m × Ends g M w (suc p) m j
      to (r, x) = der_f-call x e

      from : (m : ℕ) × PairEnds g M w a i m × Ends g M w (suc p) m j → Ends g M w p i j
      from (m, (b, (f, h, (r, x), t)), (s, y)) = (_, DerF.expand {b = b} e h x t y)

  -- the pair has no end, one end, or some
  pub ends-none : {p a i j : ℕ} → facing g p ≡ Nonterminal a → ((m : ℕ) → ¬ PairEnds g M w a i m) → ¬ Ends g M w p i j
  ends-none e n x = let (m, y, z) = (ends-call e).0 x in n m y

  pub ends-one : {p a i j n : ℕ} → facing g p ≡ Nonterminal a → ((m : ℕ) → PairEnds g M w a i m ↔ (m ≡ n)) → Ends g M w p i j ↔ Ends g M w (suc p) n j
  ends-one {p} {a} {i} {j} {n} e h = (λ x. to ((ends-call e).0 x), λ x. (ends-call e).1 (n, (h n).1 refl, x))
    where
      to : (m : ℕ) × PairEnds g M w a i m × Ends g M w (suc p) m j → Ends g M w (suc p) n j
      to (m, y, z) = rw ((h m).0 y) at z

  pub ends-several : {p a i j : ℕ} (X : ℕ → Type 0) → facing g p ≡ Nonterminal a → ((m : ℕ) → PairEnds g M w a i m ↔ X m)
      → Ends g M w p i j ↔ EndsFrom g M w X (suc p) j
  ends-several X e h =
      (λ x. let (m, y, z) = (ends-call e).0 x in (m, (h m).0 y, z), λ x. let (m, y, z) = x in (ends-call e).1 (m, (h m).1 y, z))

  -- ---- both kinds of symbol at once
  -- over a token that may stand here
  pub over-token : {p k i : ℕ} → facing g p ≡ Token k → i < length w → T (admits g k (token_at w i)) → Over g M w p i (suc i)
  over-token {i = i} e l q = token e (get-get_or w i end_mark l) q

  over-to : {p i j : ℕ} → ¬ (facing g p ≡ End) → Ends g M w p i j → (m : ℕ) × Over g M w p i m × Ends g M w (suc p) m j
  over-to n (r, DerF.finish e l) = absurd (n e)
  over-to {i = i} n (r, DerF.match e d t x) = (suc i, token e d t, (r, x))
  over-to n (r, DerF.expand {b = b} {f = f} {m = m} {r = r₁} {s = r₂} e d x t y) = (m, call e (b, (f, d, (r₁, x), t)), (r₂, y))

  over-from : {p i m j : ℕ} → Over g M w p i m → Ends g M w (suc p) m j → Ends g M w p i j
  over-from (token e d t) (r, x) = (r, DerF.match e d t x)
  over-from (call e (b, (f, d, (r, x), t))) (s, y) = (_, DerF.expand {b = b} e d x t y)

  -- ---- a set of positions, symbol by symbol: Y is where the symbol leads from X
  pub from-over : {p j : ℕ} (X Y : ℕ → Type 0) → ¬ (facing g p ≡ End) → Leads g M w p X Y → EndsFrom g M w X p j ↔ EndsFrom g M w Y (suc p) j
  from-over {p} {j} X Y n h = (to, from)
    where
      to : EndsFrom g M w X p j → EndsFrom g M w Y (suc p) j
      to (i, x, e) = let (m, o, z) = over-to n e in (m, (h m).1 (i, x, o), z)

      from : EndsFrom g M w Y (suc p) j → EndsFrom g M w X p j
      from (m, y, e) = let (i, x, o) = (h m).0 y in (i, x, over-from o e)

  pub from_end : {p j : ℕ} (X : ℕ → Type 0) → facing g p ≡ End → ((m : ℕ) → X m → m ≤ length w) → EndsFrom g M w X p j ↔ X j
  from_end {p} {j} X e h = (to, λ x. (j, x, (ends-end e (h j x)).1 refl))
    where
      to : EndsFrom g M w X p j → X j
      to (m, x, y) = rw ((ends-end e (h m x)).0 y) at x
