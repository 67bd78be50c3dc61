-- What the places of a compiled grammar face: symbols of the rules at the places of productions, the end mark at the end place, and otherwise an end.
use mathlib.Core.Path.{◌≡◌, refl, ap}
use mathlib.Core.Logic.{◌⊎◌, inl, inr}
use mathlib.Core.Option.{some}
use mathlib.Core.List.{List, [], ◌∷◌, ◌++◌}
use Prim.Native.Nat.{ℕ, zero, suc, ◌+◌, ◌-◌, ◌≤◌, ◌<◌}
use native.Mathlib.Omega.{arith}
use lib.Dec.{T}
use lib.ListN.{length, get_or, replicate}
use Rattle.base.proofs.Booleans.{clash}
use Rattle.grammar.specs.Types.{Symbol, Token, Nonterminal, End, Place}
use Rattle.grammar.specs.Limits.{max_places, end_place, end_mark, nobody}
use Rattle.base.specs.Lists.{AllOf}
use Rattle.grammar.specs.Decode.{Rules, Legal, Production, Alternatives}
use Rattle.grammar.specs.Grammar.{at, nowhere, facing, owner, admits, first}
use Rattle.grammar.specs.Grammar.{lay_one, lay_each, lay_all, size_each, size_all, starts_all, padded, compile, Limited}
use Rattle.grammar.proofs.GrammarLaws.{first_below, admits-mark}
use Rattle.grammar.proofs.CompileLaws.{length-all}
use Rattle.grammar.proofs.OrderedLaws.{end-at}

-- symbol s at place p, of rules with t kinds, n nonterminals and `size` places, the end mark standing at `last`
pub data Faces (t n size last p : ℕ) (s : Symbol) : Type 0 where
  end : s ≡ End → Faces t n size last p s
  mark : p ≡ last → s ≡ Token end_mark → Faces t n size last p s
  legal : p < size → Legal t n s → Faces t n size last p s

module _ (t n : ℕ) where
  -- every place of a list faces an end or a symbol of the rules
  abbrev Fine : List Place → Type 0
  Fine l = (p : ℕ) → ((get_or l p nowhere).symbol ≡ End) ⊎ Legal t n (get_or l p nowhere).symbol

  fine-append : (l m : List Place) → Fine l → Fine m → Fine (l ++ m)
  fine-append [] m h k p = k p
  fine-append (x ∷ l) m h k zero = h zero
  fine-append (x ∷ l) m h k (suc p) = fine-append l m (λ q. h (suc q)) k p

  fine-one : (a : ℕ) (β : List Symbol) → AllOf (Legal t n) β → Fine (lay_one a β)
  unfolding lay_one
  fine-one a [] h zero = inl refl
  fine-one a [] h (suc p) = inl refl
  fine-one a (x ∷ β) h zero = inr h.0
  fine-one a (x ∷ β) h (suc p) = fine-one a β h.1 p

  fine-each : (a : ℕ) (l : List (List Symbol)) → AllOf (Production t n) l → Fine (lay_each a l)
  unfolding lay_each
  fine-each a [] h p = inl refl
  fine-each a (β ∷ l) h p = fine-append (lay_one a β) (lay_each a l) (fine-one a β h.0.1) (λ q. fine-each a l h.1 q) p

  fine-all : (a : ℕ) (l : List (List (List Symbol))) → AllOf (Alternatives t n) l → Fine (lay_all a l)
  unfolding lay_all
  fine-all a [] h p = inl refl
  fine-all a (y ∷ l) h p = fine-append (lay_each a y) (lay_all (suc a) l) (fine-each a y h.0.2) (λ q. fine-all (suc a) l h.1 q) p

  -- with m places that face an end behind the list, and the end place behind those
  faces-pad : (m p : ℕ) → Faces t n 0 m p (get_or (replicate m nowhere ++ (at nobody (Token end_mark) ∷ [])) p nowhere).symbol
  faces-pad zero zero = mark refl refl
  faces-pad zero (suc p) = end refl
  faces-pad (suc m) zero = end refl
  faces-pad (suc m) (suc p) = go (faces-pad m p)
    where
      go : {s : Symbol} → Faces t n 0 m p s → Faces t n 0 (suc m) (suc p) s
      go (end e) = end e
      go (mark q e) = mark (ap suc q) e
      go (legal q e) = absurd (omega arith)

  faces-lay : (l : List Place) (m : ℕ) → Fine l → (p : ℕ)
      → Faces t n (length l) (length l + m) p (get_or (l ++ (replicate m nowhere ++ (at nobody (Token end_mark) ∷ []))) p nowhere).symbol
  faces-lay [] m h p = let z : 0 + m ≡ m = omega arith in rw z (faces-pad m p)
  faces-lay (x ∷ l) m h zero = go (h zero)
    where
      go : (x.symbol ≡ End) ⊎ Legal t n x.symbol → Faces t n (suc (length l)) (suc (length l) + m) 0 x.symbol
      go (inl e) = end e
      go (inr k) = legal (omega arith) k
  faces-lay (x ∷ l) m h (suc p) = go (faces-lay l m (λ q. h (suc q)) p)
    where
      go : {s : Symbol} → Faces t n (length l) (length l + m) p s → Faces t n (suc (length l)) (suc (length l) + m) (suc p) s
      go (end e) = end e
      go (mark q e) = mark (omega arith) e
      go (legal q e) = legal (omega arith) e

faces-cast : {t n size size' last last' p : ℕ} {s : Symbol} → size ≡ size' → last ≡ last' → Faces t n size last p s
    → Faces t n size' last' p s
faces-cast e z h = rw (e, z) at h

pub length-starts_all : (o : ℕ) (l : List (List (List Symbol))) → length (starts_all o l) ≡ length l
unfolding starts_all
length-starts_all o [] = refl
length-starts_all o (n ∷ l) = ap suc (length-starts_all (o + size_each n) l)

module _ (r : Rules) (limits : Limited r) where
  pub compile-faces : (p : ℕ) → Faces r.kinds (length r.productions) (size_all r.productions) end_place p (facing (compile r) p)
  unfolding facing compile padded
  compile-faces p =
      let l : List Place = lay_all 0 r.productions in
      let e : length l ≡ size_all r.productions = length-all 0 r.productions in
      let z : length l + (max_places - length l) ≡ end_place = omega (arith, e, limits.small) in
      let fine : Fine r.kinds (length r.productions) l = fine-all r.kinds (length r.productions) 0 r.productions limits.each in
      faces-cast e z (faces-lay r.kinds (length r.productions) l (max_places - length l) fine p)

  -- a nonterminal is faced only at a place of a production
  pub compile-within : (p a : ℕ) → facing (compile r) p ≡ Nonterminal a → p < size_all r.productions
  compile-within p a e = go (compile-faces p) e
    where
      go : {s : Symbol} → Faces r.kinds (length r.productions) (size_all r.productions) end_place p s → s ≡ Nonterminal a
          → p < size_all r.productions
      go (end q) e = clash (cc)
      go (mark l q) e = clash (cc)
      go (legal l q) e = l

  -- the end mark may stand only where the end place calls for it
  pub compile-end-only : (p k : ℕ) → facing (compile r) p ≡ Token k → T (admits (compile r) k end_mark) → p ≡ end_place
  compile-end-only p k e c = go (compile-faces p) e
    where
      go : {s : Symbol} → Faces r.kinds (length r.productions) (size_all r.productions) end_place p s → s ≡ Token k → p ≡ end_place
      go (end q) e = clash (cc)
      go (mark l q) e = l
      go (legal l q) e =
          let z = admits-mark (compile r) k c in
          let y : Legal r.kinds (length r.productions) (Token k) = rw e at q in
          let u = y.0 in
          absurd (omega arith)

  -- the end place belongs to no nonterminal
  pub compile-nobody : (b f : ℕ) → ¬ (first (compile r) (owner (compile r) end_place) b ≡ some f)
  unfolding compile owner
  compile-nobody b f e =
      let l : length (lay_all 0 r.productions) ≤ max_places = omega (arith, length-all 0 r.productions, limits.small) in
      let z : owner (compile r) end_place ≡ nobody = ap (λ (x : Place). x.owner) (end-at (lay_all 0 r.productions) l) in
      let y = first_below (compile r) (owner (compile r) end_place) b e in
      absurd (omega (arith, length-starts_all 0 r.productions, limits.few))
