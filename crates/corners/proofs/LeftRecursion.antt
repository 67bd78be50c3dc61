-- Moves, what they lead to, and left recursion (refusal 7): the closure by rounds is the textbook's; and for the code, rows that are sound and closed.
use mathlib.Core.Path.{◌≡◌, refl, ap, ◌∙◌}
use mathlib.Core.Logic.{◌↔◌, ◌⊎◌, inl, inr}
use mathlib.Core.Bool.{Bool, false, ◌&&◌}
use mathlib.Core.Option.{some}
use mathlib.Core.List.{List, [], ◌∷◌, ◌++◌}
use Prim.Native.Nat.{ℕ, zero, suc, ◌-◌, ◌<◌}
use native.Mathlib.Omega.{arith}
use native.Mathlib.Decide.{dec_lt}
use lib.Dec.{T, eqb, eqb→eq, eqb_refl}
use lib.ListN.{length}
use Rattle.base.specs.Rounds.{rounds, any_of, up_from}
use Rattle.base.proofs.Booleans.{clash, and_T, T_and, or-T, T-or-l, T-or-r, same}
use Rattle.base.proofs.Lists.{any_of-T, T-any_of, get-up_from, up_from-get}
use Rattle.base.proofs.Fixpoint.{Within}
use Rattle.grammar.specs.declared.Symbol.{Symbol}
use Rattle.grammar.specs.declared.Symbol.TheVariants.{Token, Nonterminal, End}
use Rattle.grammar.specs.Grammar.{Grammar, facing, before, alternatives, suffix, of_places}
use Rattle.grammar.specs.Derivation.{Syntax}
use Rattle.grammar.proofs.GrammarLaws.{suffix-is, production-is, production-from, first_pos, no-alternatives}
use Rattle.closures.specs.Textbook.{Move, Reaches, one, more, LeftRecursive}
use Rattle.closures.specs.Closures.{passes, nullable?}
use Rattle.corners.specs.Corners.{leads, leads_by, move?, reaches_round, reaches?, left_recursive?}
use Rattle.closures.proofs.Below.{rounds-closed}
use Rattle.closures.proofs.Deriving.{vanish-iff}

-- ---- moves
-- where c stands in a list that leads to it: behind symbols that pass
module _ (X : ℕ → Bool) (c : ℕ) where
  abbrev Split : List Symbol → Type 0
  Split l = (α : List Symbol) × (γ : List Symbol) × (l ≡ α ++ (Nonterminal c ∷ γ)) × T (passes false X α)

  leads-split : (l : List Symbol) → T (leads X c l) → Split l
  unfolding leads passes
  leads-split [] t = absurd t
  leads-split (Token k ∷ l) t = absurd t
  leads-split (Nonterminal b ∷ l) t = go (or-T (eqb b c) (X b && leads X c l) t) (leads-split l)
    where
      go : T (eqb b c) ⊎ T (X b && leads X c l) → (T (leads X c l) → Split l) → Split (Nonterminal b ∷ l)
      go (inl e) rec = ([], l, ap (λ x. Nonterminal x ∷ l) (eqb→eq b c e), tt)
      go (inr s) rec =
          let h = and_T (X b) (leads X c l) s in
          let (α, γ, q, v) = rec h.1 in
          (Nonterminal b ∷ α, γ, ap (λ z. Nonterminal b ∷ z) q, T_and (X b) (passes false X α) h.0 v)
  leads-split (End ∷ l) t = absurd t

  split-leads : (α γ : List Symbol) → T (passes false X α) → T (leads X c (α ++ (Nonterminal c ∷ γ)))
  unfolding leads passes
  split-leads [] γ v = T-or-l (eqb c c) (X c && leads X c γ) (eqb_refl c)
  split-leads (Token k ∷ α) γ v = absurd v
  split-leads (Nonterminal b ∷ α) γ v =
      let h = and_T (X b) (passes false X α) v in
      let rest = α ++ (Nonterminal c ∷ γ) in
      T-or-r (eqb b c) (X b && leads X c rest) (T_and (X b) (leads X c rest) h.0 (split-leads α γ h.1))
  split-leads (End ∷ α) γ v = absurd v

  -- place by place, as one scan from the last place down works it out
  pub leads-place : (g : Grammar) (p : ℕ) → leads X c (suffix g p) ≡ leads_by X c (facing g p) (leads X c (suffix g (suc p)))
  unfolding leads
  leads-place g p = ap (leads X c) (suffix-is g p) ∙ go (facing g p)
    where
      go : (s : Symbol) → leads X c (before s (suffix g (suc p))) ≡ leads_by X c s (leads X c (suffix g (suc p)))
      go (Token k) = refl
      go (Nonterminal a) = refl
      go End = refl

module _ (g : Grammar) where
  -- the test is right
  pub move-iff : (a c : ℕ) → T (move? g a c) ↔ Move (of_places g) a c
  unfolding move?
  move-iff a c = (to, from)
    where
      to : T (any_of (λ f. leads (nullable? g) c (suffix g f)) (alternatives g a)) → Move (of_places g) a c
      to t =
          let (n, f, e, s) = any_of-T (λ f. leads (nullable? g) c (suffix g f)) (alternatives g a) t in
          let (α, γ, q, v) = leads-split (nullable? g) c (suffix g f) s in
          record { alternative = suc n; ahead = α; behind = γ; stands = production-is g a (suc n) e ∙ ap some q; empty = (vanish-iff g α).0 v }

      from : Move (of_places g) a c → T (any_of (λ f. leads (nullable? g) c (suffix g f)) (alternatives g a))
      from m =
          let (f, d, q) = production-from g a m.alternative m.stands in
          let (n, d') = first_pos g a m.alternative f d in
          T-any_of (λ f. leads (nullable? g) c (suffix g f)) (alternatives g a) n d'
          (rw q (split-leads (nullable? g) c m.ahead m.behind ((vanish-iff g m.ahead).1 m.empty)))

  -- a move begins at a nonterminal of the grammar
  pub move-from : {a c : ℕ} → Move (of_places g) a c → a < length g.starts
  unfolding move? any_of
  move-from {a} {c} m = go (dec_lt a (length g.starts))
    where
      go : Dec (a < length g.starts) → a < length g.starts
      go (yes l) = l
      go (no l) = absurd (rw (no-alternatives g a (omega arith)) at ((move-iff a c).1 m))

  faced : (c : ℕ) (α γ : List Symbol) (p : ℕ) → suffix g p ≡ α ++ (Nonterminal c ∷ γ) → (q : ℕ) × (facing g q ≡ Nonterminal c)
  faced c [] γ p e = go (facing g p) refl
    where
      go : (s : Symbol) → facing g p ≡ s → (q : ℕ) × (facing g q ≡ Nonterminal c)
      go (Token k) d = let z = suffix-is g p in clash (cc)
      go (Nonterminal b) d = (p, (let z = suffix-is g p in let y : b ≡ c = cc in cc))
      go End d = let z = suffix-is g p in clash (cc)
  faced c (x ∷ α) γ p e = go (facing g p) refl (faced c α γ (suc p))
    where
      go : (s : Symbol) → facing g p ≡ s → (suffix g (suc p) ≡ α ++ (Nonterminal c ∷ γ) → (q : ℕ) × (facing g q ≡ Nonterminal c))
          → (q : ℕ) × (facing g q ≡ Nonterminal c)
      go (Token k) d rec = let z = suffix-is g p in rec (cc)
      go (Nonterminal b) d rec = let z = suffix-is g p in rec (cc)
      go End d rec = let z = suffix-is g p in clash (cc)

  -- a move ends at what some place faces
  pub move-to : {a c : ℕ} → Move (of_places g) a c → (p : ℕ) × (facing g p ≡ Nonterminal c)
  move-to {a} {c} m = let (f, d, q) = production-from g a m.alternative m.stands in faced c m.ahead m.behind f q

-- ---- what moves lead to
-- what a round says, in facts
data Way (g : Grammar) (c : ℕ) (X : ℕ → Bool) (a : ℕ) : Type 0 where
  last : Move (of_places g) a c → Way g c X a
  next : (b : ℕ) → b < length g.starts → Move (of_places g) a b → T (X b) → Way g c X a

-- moves behind moves
pub reaches-trans : {g : Syntax} {a b c : ℕ} → Reaches g a b → Reaches g b c → Reaches g a c
reaches-trans (one m) s = more m s
reaches-trans (more m r) s = more m (reaches-trans r s)

-- moves begin at a nonterminal of the grammar
pub reaches-from : (g : Grammar) {a c : ℕ} → Reaches (of_places g) a c → a < length g.starts
reaches-from g (one m) = move-from g m
reaches-from g (more m r) = move-from g m

module _ (g : Grammar) (c : ℕ) where
  abbrev further : (ℕ → Bool) → ℕ → Bool
  further X a = any_of (λ b. move? g a b && X b) (up_from 0 (length g.starts))

  way_out : (X : ℕ → Bool) (a : ℕ) → T (reaches_round g c X a) → Way g c X a
  unfolding reaches_round
  way_out X a t = go (or-T (move? g a c) (further X a) t)
    where
      go : T (move? g a c) ⊎ T (further X a) → Way g c X a
      go (inl t) = last ((move-iff g a c).0 t)
      go (inr t) =
          let (n, b, e, s) = any_of-T (λ b. move? g a b && X b) (up_from 0 (length g.starts)) t in
          let h = and_T (move? g a b) (X b) s in
          let l = get-up_from (length g.starts) 0 n e in
          next b (omega arith) ((move-iff g a b).0 h.0) h.1

  way_in : (X : ℕ → Bool) (a : ℕ) → Way g c X a → T (reaches_round g c X a)
  unfolding reaches_round
  way_in X a (last m) = T-or-l (move? g a c) (further X a) ((move-iff g a c).1 m)
  way_in X a (next b l m x) =
      T-or-r (move? g a c) (further X a)
      (T-any_of (λ b. move? g a b && X b) (up_from 0 (length g.starts)) (b - 0) (up_from-get (length g.starts) 0 b (omega arith) (omega arith))
      (T_and (move? g a b) (X b) ((move-iff g a b).1 m) x))

  reach-mono : (X Y : ℕ → Bool) → Within X Y → Within (reaches_round g c X) (reaches_round g c Y)
  reach-mono X Y h a t = go (way_out X a t)
    where
      go : Way g c X a → T (reaches_round g c Y a)
      go (last m) = way_in Y a (last m)
      go (next b l m x) = way_in Y a (next b l m (h b x))

  reach-below : (X : ℕ → Bool) (a : ℕ) → T (reaches_round g c X a) → a < length g.starts
  reach-below X a t = go (way_out X a t)
    where
      go : Way g c X a → a < length g.starts
      go (last m) = move-from g m
      go (next b l m x) = move-from g m

  reach-sound : (k a : ℕ) → T (rounds (reaches_round g c) k a) → Reaches (of_places g) a c
  unfolding rounds
  reach-sound zero a t = absurd t
  reach-sound (suc k) a t = go (way_out (rounds (reaches_round g c) k) a t) (reach-sound k)
    where
      go : Way g c (rounds (reaches_round g c) k) a → ((a : ℕ) → T (rounds (reaches_round g c) k a) → Reaches (of_places g) a c) → Reaches (of_places g) a c
      go (last m) rec = one m
      go (next b l m x) rec = more m (rec b x)

  reach-closed : (a : ℕ) → Way g c (λ b. reaches? g b c) a → T (reaches? g a c)
  unfolding reaches?
  reach-closed a x = rounds-closed (reaches_round g c) reach-mono (length g.starts) reach-below a (way_in (λ b. reaches? g b c) a x)

  reach-complete : {a : ℕ} → Reaches (of_places g) a c → T (reaches? g a c)
  reach-complete {a} (one m) = reach-closed a (last m)
  reach-complete {a} (more {b = b} m r) = reach-closed a (next b (reaches-from g r) m (reach-complete r))

pub reaches-iff : (g : Grammar) (a c : ℕ) → T (reaches? g a c) ↔ Reaches (of_places g) a c
unfolding reaches?
reaches-iff g a c = (reach-sound g c (suc (length g.starts)) a, reach-complete g c)

pub left_recursive-iff : (g : Grammar) (a : ℕ) → T (left_recursive? g a) ↔ LeftRecursive (of_places g) a
unfolding left_recursive?
left_recursive-iff g a = reaches-iff g a a

-- ---- for the code, which keeps one set of reached nonterminals for each nonterminal: rows that are sound and closed are what moves lead to
module _ (g : Grammar) (R : ℕ → ℕ → Bool) where
  -- the rows and columns that count: those `Inside`, where every move ends
  module _ (Inside : ℕ → Type 0) (named : (a c : ℕ) → Move (of_places g) a c → Inside c)
      (begun : (a c : ℕ) → Inside a → Inside c → T (move? g a c) → T (R a c))
      (closed : (a b c : ℕ) → Inside a → Inside b → Inside c → T (R a b) → T (R b c) → T (R a c))
      (sound : (a c : ℕ) → Inside a → T (R a c) → Reaches (of_places g) a c) where
    ends : {a c : ℕ} → Reaches (of_places g) a c → Inside c
    ends {a} {c} (one m) = named a c m
    ends (more m r) = ends r

    rows-complete : {a c : ℕ} → Inside a → Reaches (of_places g) a c → T (R a c)
    rows-complete {a} {c} i (one m) = begun a c i (named a c m) ((move-iff g a c).1 m)
    rows-complete {a} {c} i (more {b = b} m r) =
        let j = named a b m in closed a b c i j (ends r) (begun a b i j ((move-iff g a b).1 m)) (rows-complete j r)

    rows_inside : (a : ℕ) → Inside a → (c : ℕ) → R a c ≡ reaches? g a c
    rows_inside a i c = same (R a c) (reaches? g a c) (λ t. (reaches-iff g a c).1 (sound a c i t)) (λ t. rows-complete i ((reaches-iff g a c).0 t))

  -- only rows and columns of the grammar's nonterminals are asked for, where every nonterminal that stands in a production is one of them
  pub rows-exact-below : ((a c : ℕ) → Move (of_places g) a c → c < length g.starts)
      → ((a c : ℕ) → a < length g.starts → c < length g.starts → T (move? g a c) → T (R a c))
      → ((a b c : ℕ) → a < length g.starts → b < length g.starts → c < length g.starts → T (R a b) → T (R b c) → T (R a c))
      → ((a c : ℕ) → a < length g.starts → T (R a c) → Reaches (of_places g) a c)
      → (a : ℕ) → a < length g.starts → (c : ℕ) → R a c ≡ reaches? g a c
  rows-exact-below = rows_inside (λ a. a < length g.starts)

  -- left recursive is what stands on the diagonal
  pub rows-recursive : (a : ℕ) → R a a ≡ reaches? g a a → R a a ≡ left_recursive? g a
  unfolding left_recursive?
  rows-recursive a e = e
