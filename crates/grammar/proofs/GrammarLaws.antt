-- Grammars and derivations: what a place begins, productions by their first places, one derivation behind another.
use mathlib.Core.Path.{◌≡◌, refl, ap}
use mathlib.Core.Option.{Option, none, some}
use mathlib.Core.List.{List, [], ◌∷◌, ◌++◌, append_assoc}
use Prim.Native.Nat.{ℕ, zero, suc, ◌≤◌, ◌<◌}
use native.Mathlib.Omega.{arith}
use native.Mathlib.Decide.{dec_le}
use lib.Dec.{T, eqb_refl, eqb→eq}
use lib.ListN.{length, get_or, get_elem?, drop, get_or-eq_default}
use Rattle.base.proofs.Booleans.{clash}
use Rattle.grammar.specs.Types.{Symbol, End, Place}
use Rattle.grammar.specs.Limits.{end_mark}
use Rattle.grammar.specs.Grammar.{Grammar, facing, admits, alternatives, first, nowhere, before, spell, suffix, production}
use Rattle.grammar.specs.Derivation.{Syntax, Leftmost}

-- ---- places
-- what a place begins, from what it faces and what the next place begins
pub suffix-is : (g : Grammar) (p : ℕ) → suffix g p ≡ before (facing g p) (suffix g (suc p))
unfolding suffix facing
suffix-is g p = go g.places p
  where
    go : (l : List Place) (p : ℕ) → spell (drop p l) ≡ before (get_or l p nowhere).symbol (spell (drop (suc p) l))
    go [] zero = refl
    go [] (suc p) = refl
    go (x ∷ l) zero = refl
    go (x ∷ l) (suc p) = go l p

-- ---- productions
-- a production is what its first place begins, and every production has a first place
pub production-is : (g : Grammar) (a b : ℕ) {f : ℕ} → first g a b ≡ some f → production g a b ≡ some (suffix g f)
unfolding production
production-is g a b e = rw (e, production)

pub production-from : (g : Grammar) (a b : ℕ) {β : List Symbol} → production g a b ≡ some β → (f : ℕ) × (first g a b ≡ some f)
    × (suffix g f ≡ β)
unfolding production
production-from g a b {β} e = go (first g a b) refl
  where
    go : (o : Option ℕ) → first g a b ≡ o → (f : ℕ) × (first g a b ≡ some f) × (suffix g f ≡ β)
    go none d = clash (cc)
    go (some f) d = (f, d, cc)

-- an alternative counts from 1, the list of them from 0
pub first_pos : (g : Grammar) (a b f : ℕ) → first g a b ≡ some f → (n : ℕ) × (get_elem? (alternatives g a) n ≡ some f)
first_pos g a zero f e = clash (cc)
first_pos g a (suc n) f e = (n, e)

-- a number that is no nonterminal has no productions
pub no-alternatives : (g : Grammar) (a : ℕ) → length g.starts ≤ a → alternatives g a ≡ []
unfolding alternatives
no-alternatives g a h = get_or-eq_default g.starts [] {n = a} h

-- so a number that has a production is a nonterminal
pub first_below : (g : Grammar) (a b : ℕ) {f : ℕ} → first g a b ≡ some f → a < length g.starts
first_below g a b {f} e = go (dec_le (length g.starts) a) b e
  where
    go : Dec (length g.starts ≤ a) → (b : ℕ) → first g a b ≡ some f → a < length g.starts
    go (yes l) zero e = clash (cc)
    go (yes l) (suc b) e = let y : get_elem? [] b ≡ some f = rw (no-alternatives g a l) at e in clash (cc)
    go (no l) b e = omega arith

-- ---- derivations
-- a token may stand where its own kind is called for
pub admits-self : (g : Grammar) (k : ℕ) → T (admits g k k)
unfolding admits
admits-self g k = eqb_refl k

-- the end mark may stand only where it is called for
pub admits-mark : (g : Grammar) (k : ℕ) → T (admits g k end_mark) → k ≡ end_mark
unfolding admits
admits-mark g k a = eqb→eq k end_mark a

-- two derivations, one behind the other
pub leftmost-append : {g : Syntax} {α β : List Symbol} {r s w v : List ℕ} → Leftmost g α r w → Leftmost g β s v
    → Leftmost g (α ++ β) (r ++ s) (w ++ v)
leftmost-append Leftmost.done y = y
leftmost-append (Leftmost.match c x) y = Leftmost.match c (leftmost-append x y)
leftmost-append (Leftmost.expand e x) y = Leftmost.expand e (rw append_assoc at (leftmost-append x y))

-- what faces a token or a nonterminal is a place of the grammar
pub faces-place : (g : Grammar) (p : ℕ) → ¬ (facing g p ≡ End) → p < length g.places
unfolding facing
faces-place g p h = go (dec_le (length g.places) p)
  where
    go : Dec (length g.places ≤ p) → p < length g.places
    go (yes l) = absurd (h (ap (λ (x : Place). x.symbol) (get_or-eq_default g.places nowhere l)))
    go (no l) = omega arith
