-- The places of a compiled grammar's productions have an owner, all others have none: so productions never run on past the last place, and begin at
-- places of their own.
use mathlib.Core.Path.{◌≡◌, refl, ap}
use mathlib.Core.Option.{some}
use mathlib.Core.List.{List, [], ◌∷◌, ◌++◌}
use Prim.Native.Nat.{ℕ, zero, suc, ◌+◌, ◌-◌, ◌≤◌, ◌<◌}
use native.Mathlib.Omega.{arith}
use native.Mathlib.Decide.{dec_lt}
use lib.ListN.{length, get_or, replicate}
use Rattle.base.proofs.Booleans.{clash}
use Rattle.grammar.specs.Types.{Symbol, Token, Nonterminal, End, Place}
use Rattle.grammar.specs.Limits.{max_places, max_nonterminals, end_place, end_mark, nobody}
use Rattle.grammar.specs.Decode.{Rules, Legal}
use Rattle.grammar.specs.Grammar.{at, nowhere, facing, owner, first, lay_one, lay_each, lay_all, size_all, padded, compile, Limited}
use Rattle.grammar.proofs.GrammarLaws.{first_below}
use Rattle.grammar.proofs.CompileLaws.{length-all}
use Rattle.grammar.proofs.OrderedLaws.{compile-ordered}
use Rattle.grammar.proofs.PlaceLaws.{Faces, compile-faces, length-starts_all}

-- every place of a list is owned by a nonterminal below k
abbrev Below : ℕ → List Place → Type 0
Below k l = (p : ℕ) → p < length l → (get_or l p nowhere).owner < k

below-append : (k : ℕ) (l m : List Place) → Below k l → Below k m → Below k (l ++ m)
below-append k [] m h i p q = i p q
below-append k (x ∷ l) m h i zero q = h zero (omega arith)
below-append k (x ∷ l) m h i (suc p) q = below-append k l m (λ p q. h (suc p) (omega arith)) i p (omega arith)

below_one : (k a : ℕ) (β : List Symbol) → a < k → Below k (lay_one a β)
unfolding lay_one
below_one k a [] h zero q = h
below_one k a [] h (suc p) q = absurd (omega arith)
below_one k a (x ∷ β) h zero q = h
below_one k a (x ∷ β) h (suc p) q = below_one k a β h p (omega arith)

below_each : (k a : ℕ) (l : List (List Symbol)) → a < k → Below k (lay_each a l)
unfolding lay_each
below_each k a [] h p q = absurd (omega arith)
below_each k a (β ∷ l) h p q = below-append k (lay_one a β) (lay_each a l) (below_one k a β h) (below_each k a l h) p q

below_all : (k a : ℕ) (l : List (List (List Symbol))) → a + length l ≤ k → Below k (lay_all a l)
unfolding lay_all
below_all k a [] h p q = absurd (omega arith)
below_all k a (n ∷ l) h p q =
    below-append k (lay_each a n) (lay_all (suc a) l) (below_each k a n (omega arith)) (below_all k (suc a) l (omega arith)) p q

-- with the padding behind them
in_list : (l m : List Place) (p : ℕ) → p < length l → get_or (l ++ m) p nowhere ≡ get_or l p nowhere
in_list [] m p h = absurd (omega arith)
in_list (x ∷ l) m zero h = refl
in_list (x ∷ l) m (suc p) h = in_list l m p (omega arith)

pad-owner : (m p : ℕ) → (get_or (replicate m nowhere ++ (at nobody (Token end_mark) ∷ [])) p nowhere).owner ≡ nobody
pad-owner zero zero = refl
pad-owner zero (suc p) = refl
pad-owner (suc m) zero = refl
pad-owner (suc m) (suc p) = pad-owner m p

past-owner : (l : List Place) (m p : ℕ) → length l ≤ p → (get_or (l ++ (replicate m nowhere ++ (at nobody (Token end_mark) ∷ []))) p nowhere).owner
    ≡ nobody
past-owner [] m p h = pad-owner m p
past-owner (x ∷ l) m zero h = absurd (omega arith)
past-owner (x ∷ l) m (suc p) h = past-owner l m p (omega arith)

module _ (r : Rules) (limits : Limited r) where
  pub compile-owned : (p : ℕ) → p < size_all r.productions → owner (compile r) p < max_nonterminals
  unfolding compile owner padded
  compile-owned p h =
      let l : List Place = lay_all 0 r.productions in
      let e : length l ≡ size_all r.productions = length-all 0 r.productions in
      let q : owner (compile r) p ≡ (get_or l p nowhere).owner
      = ap (λ (x : Place). x.owner) (in_list l (replicate (max_places - length l) nowhere ++ (at nobody (Token end_mark) ∷ [])) p (omega arith)) in
      omega (arith, q, below_all max_nonterminals 0 r.productions (omega (arith, limits.few)) p (omega arith))

  pub compile-unowned : (p : ℕ) → size_all r.productions ≤ p → owner (compile r) p ≡ nobody
  unfolding compile owner padded
  compile-unowned p h = let l : List Place = lay_all 0 r.productions in past-owner l (max_places - length l) p (omega (arith, length-all 0 r.productions))

  owned_in : (p : ℕ) → owner (compile r) p < max_nonterminals → p < size_all r.productions
  owned_in p h = elim (dec_lt p (size_all r.productions)) [ yes l ↦ l | no n ↦ absurd (omega (arith, compile-unowned p (omega arith))) ]

  -- productions begin at places of productions
  pub compile-first : (a b f : ℕ) → first (compile r) a b ≡ some f → f < size_all r.productions
  unfolding compile
  compile-first a b f e =
      owned_in f (omega (arith, (compile-ordered r limits).owns a b f e, first_below (compile r) a b e, length-starts_all 0 r.productions, limits.few))

  -- and go on until they end
  pub compile-next : (p : ℕ) → p < size_all r.productions → ¬ (facing (compile r) p ≡ End) → suc p < size_all r.productions
  compile-next p h n = go (facing (compile r) p) refl
    where
      go : (s : Symbol) → facing (compile r) p ≡ s → suc p < size_all r.productions
      go End e = absurd (n e)
      go (Token k) e = owned_in (suc p) (omega (arith, (compile-ordered r limits).token-on p k e, compile-owned p h))
      go (Nonterminal a) e = owned_in (suc p) (omega (arith, (compile-ordered r limits).call-on p a e, compile-owned p h))

  -- no production calls for the end mark
  pub compile-kind : (p k : ℕ) → p < size_all r.productions → facing (compile r) p ≡ Token k → 1 ≤ k
  compile-kind p k h e = go (compile-faces r limits p) e
    where
      go : {s : Symbol} → Faces r.kinds (length r.productions) (size_all r.productions) end_place p s → s ≡ Token k → 1 ≤ k
      go (Faces.end q) e = clash (cc)
      go (Faces.mark l q) e = absurd (omega (arith, limits.small))
      go (Faces.legal l q) e = let y : Legal r.kinds (length r.productions) (Token k) = rw e at q in y.0
