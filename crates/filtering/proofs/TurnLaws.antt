-- The loop through one alternative as code goes through it, forward: what is left to find out at place p and position j is what is left of the alternative.
use mathlib.Core.Path.{◌≡◌}
use mathlib.Core.Logic.{◌↔◌}
use mathlib.Core.Bool.{Bool}
use mathlib.Core.Option.{some}
use mathlib.Core.List.{List}
use Prim.Native.Nat.{ℕ, suc, ◌≤◌}
use native.Mathlib.Omega.{arith}
use lib.Dec.{T}
use Rattle.grammar.specs.declared.Symbol.TheVariants.{Token, Nonterminal, End}
use Rattle.grammar.specs.Grammar.{Grammar, facing, admits, first}
use Rattle.first_follow.specs.inside.Masks.{Masks}
use Rattle.filtering.specs.inside.Beginnings.{token_at}
use Rattle.filtering.specs.inside.Filtered.{Ends, EndsBy, PairEnds}
use Rattle.filtering.specs.inside.Cover.{Asked, CoveredFrom}
use Rattle.filtering.specs.inside.Turns.{Turn, Rest, RestFrom}
use Rattle.filtering.proofs.WalkLaws.{covered-end, covered-token, covered-other, covered-call}

module _ {g : Grammar} {M : Masks} {w : List ℕ} where
  -- the first place, at the pair's position
  pub turn-begin : (a i b f : ℕ) → first g a b ≡ some f → Turn g M w a i b f i
  turn-begin a i b f d m = (to, λ x. (f, d, x.0, x.1))
    where
      to : EndsBy g M w a i b m → Ends g M w f i m × T (M.follows (token_at w m) a)
      to (f', d', x, h) = let z : f' ≡ f = cc in (rw z at x, h)

-- ---- the same of coverage: the bound is raised to j at the end
module _ {g : Grammar} {M : Masks} {w : List ℕ} (done : ℕ → ℕ → Bool) (f i : ℕ) where
  pub rest-begin : Rest g M w done f i f i
  rest-begin h l x = x

  pub rest-token : (p j k : ℕ) → facing g p ≡ Token k → Rest g M w done f i p j → Rest g M w done f i (suc p) (suc j)
  rest-token p j k e t h l x = t h (omega arith) (covered-token done h (omega arith) e x)

  pub rest-call : (p j n c : ℕ) → facing g p ≡ Nonterminal c → Asked M w done c j → ((m : ℕ) → PairEnds g M w c j m ↔ (m ≡ n)) → j ≤ n
      → Rest g M w done f i p j → Rest g M w done f i (suc p) n
  rest-call p j n c e a s k t h l x =
      t h (omega arith) (covered-call done h c (omega arith) e a (λ m y. rw ((s m).0 y) x))

  pub rest_end : (p j h : ℕ) → facing g p ≡ End → j ≤ h → Rest g M w done f i p j → CoveredFrom g M w done h f i
  rest_end p j h e l t = t h l (covered-end done h l e)

  pub rest-other : (p j k h : ℕ) → facing g p ≡ Token k → ¬ T (admits g k (token_at w j)) → j ≤ h → Rest g M w done f i p j → CoveredFrom g M w done h f i
  rest-other p j k h e n l t = t h l (covered-other done h l e n)

  pub rest-none : (p j c h : ℕ) → facing g p ≡ Nonterminal c → Asked M w done c j → ((m : ℕ) → ¬ PairEnds g M w c j m) → j ≤ h
      → Rest g M w done f i p j → CoveredFrom g M w done h f i
  rest-none p j c h e a n l t = t h l (covered-call done h c l e a (λ m y. absurd (n m y)))

  -- j was the position where the pair with several ends was met
  pub rest-several : (p j c : ℕ) (X : ℕ → Type 0) → facing g p ≡ Nonterminal c → Asked M w done c j → ((m : ℕ) → PairEnds g M w c j m → X m)
      → Rest g M w done f i p j → RestFrom g M w done f i X (suc p) j
  rest-several p j c X e a s t h l k x = t h l (covered-call done h c l e a (λ m y. x m (s m y)))
