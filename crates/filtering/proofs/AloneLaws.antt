-- B5: a pair whose nonterminal can't start with the token there has no end but its own position.
use mathlib.Core.Path.{◌≡◌, refl, sym}
use mathlib.Core.Logic.{◌↔◌}
use mathlib.Core.Option.{some}
use mathlib.Core.List.{List, [], ◌∷◌, ◌++◌}
use Prim.Native.Nat.{ℕ, ◌≤◌, ◌<◌}
use native.Mathlib.Omega.{arith}
use native.Mathlib.Decide.{dec_lt}
use lib.Dec.{T}
use lib.ListN.{length}
use Rattle.base.proofs.Booleans.{clash, and_T, T_and}
use Rattle.grammar.specs.declared.Symbol.{Symbol}
use Rattle.grammar.specs.declared.Symbol.TheVariants.{Nonterminal}
use Rattle.grammar.specs.Grammar.{Grammar, first, suffix, of_places}
use Rattle.grammar.specs.inside.Ordered.{Ordered}
use Rattle.grammar.specs.Derivation.{Leftmost}
use Rattle.grammar.proofs.GrammarLaws.{production-from}
use Rattle.closures.specs.Closures.{nullable?}
use Rattle.closures.proofs.Deriving.{nullable-iff}
use Rattle.derivation.specs.inside.BigSteps.{Der, Split, spells, DerivesBy}
use Rattle.derivation.proofs.RunLaws.{der-le, run-empty, run-split, leftmost→run}
use Rattle.first_follow.specs.inside.Masks.{Masks, Closed}
use Rattle.filtering.specs.inside.Beginnings.{token_at}
use Rattle.filtering.specs.inside.Filtered.{PairEnds}
use Rattle.filtering.proofs.StartLaws.{der-null, start_right}
use Rattle.filtering.proofs.FilterLaws.{der_f-der, der-filter}
use Rattle.filtering.proofs.EndLaws.{pair-le}

-- ---- the empty row, at any position of any note
module _ {g : Grammar} where
  -- a derivation of no token stands anywhere
  der-anywhere : {v : List ℕ} {p i j : ℕ} {r : List ℕ} (w : List ℕ) (k : ℕ) → Der g v p i j r → i ≡ j → k ≤ length w → Der g w p k k r
  der-anywhere w k (Der.finish e l) q h = Der.finish e h
  der-anywhere w k (Der.match e d t x) q h = let l = der-le x in absurd (omega arith)
  der-anywhere w k (Der.expand e d x y) q h =
      let l = der-le x in
      let m = der-le y in
      Der.expand e d (der-anywhere w k x (omega arith) h) (der-anywhere w k y (omega arith) h)

  -- what a place leaves derives the empty row: so it does at every position
  pub empty-der : {r : List ℕ} (f : ℕ) (w : List ℕ) (k : ℕ) → k ≤ length w → Leftmost (of_places g) (suffix g f ++ []) r [] → DerivesBy g w f k k
  unfolding spells
  empty-der {r} f w k l x = go ((run-split f [] 0 0 r).0 (leftmost→run {w = []} x (f ∷ []) 0 refl refl (omega arith)))
    where
      go : Split g [] f [] 0 0 r → DerivesBy g w f k k
      go (m, r₁, r₂, y, z, q) = (r₁, der-anywhere w k y (sym (run-empty z)) l)

  call-der : {α : List Symbol} {r v : List ℕ} (a : ℕ) (w : List ℕ) (k : ℕ) → k ≤ length w → Leftmost (of_places g) α r v → α ≡ Nonterminal a ∷ [] → v ≡ []
      → (b : ℕ) × (f : ℕ) × (first g a b ≡ some f) × DerivesBy g w f k k
  call-der a w k l Leftmost.done e q = clash (cc)
  call-der a w k l (Leftmost.match c x) e q = clash (cc)
  call-der a w k l (Leftmost.expand {a = a'} {b = b} {β = β} {α = α} c x) e q =
      let z : a' ≡ a = cc in let y : α ≡ [] = cc in go (production-from g a b (rw z at c)) (rw (y, q) at x)
    where
      go : {s : List ℕ} → (f : ℕ) × (first g a b ≡ some f) × (suffix g f ≡ β) → Leftmost (of_places g) (β ++ []) s []
          → (b : ℕ) × (f : ℕ) × (first g a b ≡ some f) × DerivesBy g w f k k
      go {s} (f, d, p) x = (b, f, d, empty-der {r = s} f w k l (rw p x))

  nullable-der : (a : ℕ) (w : List ℕ) (k : ℕ) → k ≤ length w → T (nullable? g a)
      → (b : ℕ) × (f : ℕ) × (first g a b ≡ some f) × DerivesBy g w f k k
  nullable-der a w k l t = let (r, x) = (nullable-iff g a).0 t in call-der a w k l x refl refl

-- ---- B5
module _ {g : Grammar} {M : Masks} {w : List ℕ} (order : Ordered g) (c : Closed g M) where
  -- a pair that ends where it begins
  ends-empty : (a i : ℕ) → i ≤ length w → PairEnds g M w a i i ↔ T (M.empty (token_at w i) a)
  ends-empty a i l = (to, λ t. from (and_T (M.follows (token_at w i) a) (nullable? g a) (rw (c.empty-is (token_at w i) a) at t)))
    where
      to : PairEnds g M w a i i → T (M.empty (token_at w i) a)
      to (b, (f, d, (r, x), h)) =
          rw (c.empty-is (token_at w i) a) (T_and (M.follows (token_at w i) a) (nullable? g a) h (der-null a b (der_f-der x) d refl))

      from : T (M.follows (token_at w i) a) × T (nullable? g a) → PairEnds g M w a i i
      from (h, n) =
          let (b, f, d, (r, x)) = nullable-der a w i l n in (b, (f, d, (r, der-filter order c x (rw (order.owns a b f d) h)), h))

  -- a pair that ends further on starts with the token there
  ends-start : (a : ℕ) {i m : ℕ} → i < m → PairEnds g M w a i m → T (M.starts (token_at w i) a)
  ends-start a l (b, (f, d, (r, x), h)) = start_right a b c d (der_f-der x) l

  -- so a pair that does not start with it has no end but its own position
  pub alone : (a i m : ℕ) → i ≤ length w → ¬ T (M.starts (token_at w i) a) → PairEnds g M w a i m ↔ ((i ≡ m) × T (M.empty (token_at w i) a))
  alone a i m l n = (λ x. to x (dec_lt i m), λ h. rw (← h.0) ((ends-empty a i l).1 h.1))
    where
      to : PairEnds g M w a i m → Dec (i < m) → (i ≡ m) × T (M.empty (token_at w i) a)
      to x (yes k) = absurd (n (ends-start a k x))
      to x (no k) = let h = pair-le a x in let z : i ≡ m = omega arith in (z, (ends-empty a i l).0 (rw (← z) at x))
