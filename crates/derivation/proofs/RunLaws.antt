-- Runs, chains of big steps and textbook derivations are the same derivations.
use mathlib.Core.Path.{◌≡◌, refl, sym, ap, ◌∙◌}
use mathlib.Core.Logic.{◌↔◌}
use mathlib.Core.Option.{some}
use mathlib.Core.List.{List, [], ◌∷◌, ◌++◌, append_assoc}
use Prim.Native.Nat.{ℕ, suc, ◌≤◌}
use native.Mathlib.Omega.{arith}
use lib.Dec.{T}
use lib.Seq.{drop-length}
use lib.ListN.{length, length-drop, get_elem?, drop}
use Rattle.base.proofs.Booleans.{clash}
use Rattle.base.proofs.Lists.{get-below}
use Rattle.grammar.specs.declared.Symbol.{Symbol}
use Rattle.grammar.specs.declared.Symbol.TheVariants.{Token, Nonterminal, End}
use Rattle.grammar.specs.Grammar.{Grammar, facing, admits, first, suffix, of_places}
use Rattle.grammar.specs.Derivation.{Leftmost}
use Rattle.grammar.proofs.GrammarLaws.{suffix-is, production-is, production-from}
use Rattle.derivation.specs.Runs.{Run}
use Rattle.derivation.specs.inside.BigSteps.{Der, Ders, none, more, Split, spells}
use Rattle.derivation.proofs.Notes.{drop-of-get, get-of-drop}

module _ {g : Grammar} {w : List ℕ} where
  -- ---- positions only go forward, and not past the end
  pub der-le : {p i j : ℕ} {r : List ℕ} → Der g w p i j r → i ≤ j
  der-le (Der.finish e l) = omega arith
  der-le (Der.match e d t x) = let h = der-le x in omega arith
  der-le (Der.expand e d x y) = let h = der-le x in let k = der-le y in omega arith

  pub der-in : {p i j : ℕ} {r : List ℕ} → Der g w p i j r → j ≤ length w
  der-in (Der.finish e l) = l
  der-in (Der.match e d t x) = der-in x
  der-in (Der.expand e d x y) = der-in y

  pub run-le : {S : List ℕ} {i j : ℕ} {r : List ℕ} → Run g w S i j r → i ≤ j
  run-le (Run.done l) = omega arith
  run-le (Run.finish e h) = run-le h
  run-le (Run.match e d t h) = let l = run-le h in omega arith
  run-le (Run.expand e d h) = run-le h

  pub run_in : {S : List ℕ} {i j : ℕ} {r : List ℕ} → Run g w S i j r → j ≤ length w
  run_in (Run.done l) = l
  run_in (Run.finish e h) = run_in h
  run_in (Run.match e d t h) = run_in h
  run_in (Run.expand e d h) = run_in h

  -- ---- how a run goes on, by what the top of its stack faces
  pub run-empty : {i j : ℕ} {r : List ℕ} → Run g w [] i j r → i ≡ j
  run-empty (Run.done l) = refl

  pub run_end : {p i j : ℕ} {S r : List ℕ} → Run g w (p ∷ S) i j r → facing g p ≡ End → Run g w S i j r
  run_end (Run.finish e h) q = h
  run_end (Run.match e d t h) q = clash (cc)
  run_end (Run.expand e d h) q = clash (cc)

  pub run-token : {p k i j : ℕ} {S r : List ℕ} → Run g w (p ∷ S) i j r → facing g p ≡ Token k
      → (t : ℕ) × (get_elem? w i ≡ some t) × T (admits g k t) × Run g w (suc p ∷ S) (suc i) j r
  run-token (Run.finish e h) q = clash (cc)
  run-token {k = k} (Run.match {k = k'} {t = t} e d a h) q = let z : k' ≡ k = cc in (t, d, rw z at a, h)
  run-token (Run.expand e d h) q = clash (cc)

  pub run-over_call : {p a i j : ℕ} {S r : List ℕ} → Run g w (p ∷ S) i j r → facing g p ≡ Nonterminal a
      → (b : ℕ) × (s : List ℕ) × (f : ℕ) × (first g a b ≡ some f) × Run g w (f ∷ suc p ∷ S) i j s × (r ≡ b ∷ s)
  run-over_call (Run.finish e h) q = clash (cc)
  run-over_call (Run.match e d t h) q = clash (cc)
  run-over_call {a = a} (Run.expand {a = a'} {b = b} {f = f} {r = s} e d h) q = let z : a' ≡ a = cc in (b, s, f, rw z at d, h, refl)

  -- ---- from a run, a chain of big steps: one step for each way on
  ders-match : {p k t i j : ℕ} {S r : List ℕ} → facing g p ≡ Token k → get_elem? w i ≡ some t → T (admits g k t)
      → Ders g w (suc p ∷ S) (suc i) j r → Ders g w (p ∷ S) i j r
  ders-match e d t (more x xs) = more (Der.match e d t x) xs

  ders-expand : {p a b f i j : ℕ} {S r : List ℕ} → facing g p ≡ Nonterminal a → first g a b ≡ some f
      → Ders g w (f ∷ suc p ∷ S) i j r → Ders g w (p ∷ S) i j (b ∷ r)
  ders-expand e d (more x (more y zs)) = rw (← append_assoc) (more (Der.expand e d x y) zs)

  pub run→ders : {S : List ℕ} {i j : ℕ} {r : List ℕ} → Run g w S i j r → Ders g w S i j r
  run→ders (Run.done l) = none l
  run→ders (Run.finish {i = i} e h) = let k = run-le h in let l = run_in h in more (Der.finish {i = i} e (omega arith)) (run→ders h)
  run→ders (Run.match e d t h) = ders-match e d t (run→ders h)
  run→ders (Run.expand e d h) = ders-expand e d (run→ders h)

  -- ---- a big step before a run, and a chain of big steps as a run
  pub der+run : {p i m j : ℕ} {S r s : List ℕ} → Der g w p i m r → Run g w S m j s → Run g w (p ∷ S) i j (r ++ s)
  der+run (Der.finish e l) h = Run.finish e h
  der+run (Der.match e d t x) h = Run.match e d t (der+run x h)
  der+run (Der.expand e d x y) h = rw append_assoc (Run.expand e d (der+run x (der+run y h)))

  pub ders→run : {S : List ℕ} {i j : ℕ} {r : List ℕ} → Ders g w S i j r → Run g w S i j r
  ders→run (none l) = Run.done l
  ders→run (more x xs) = der+run x (ders→run xs)

  split-ders : {p i j : ℕ} {S r : List ℕ} → Ders g w (p ∷ S) i j r → Split g w p S i j r
  split-ders (more {m = m} {r = r₁} {s = r₂} x xs) = (m, r₁, r₂, x, ders→run xs, refl)

  -- a run is a big step of its top place and a run of the rest
  pub run-split : (p : ℕ) (S : List ℕ) (i j : ℕ) (r : List ℕ) → Run g w (p ∷ S) i j r ↔ Split g w p S i j r
  run-split p S i j r = (λ h. split-ders (run→ders h), λ h. rw h.5 (der+run h.3 h.4))

  -- ---- a run up to the note's end is a textbook derivation of what the stack spells
  pub run→leftmost : {S : List ℕ} {i j : ℕ} {r : List ℕ} → Run g w S i j r → j ≡ length w → Leftmost (of_places g) (spells g S) r (drop i w)
  unfolding spells
  run→leftmost (Run.done l) n = rw (n, drop-length) Leftmost.done
  run→leftmost (Run.finish {p = p} e h) n = rw (suffix-is, e) (run→leftmost h n)
  run→leftmost (Run.match {p = p} {k = k} {i = i} e d t h) n = rw (suffix-is, e, drop-of-get w i d) (Leftmost.match t (run→leftmost h n))
  run→leftmost (Run.expand {p = p} {a = a} {b = b} e d h) n = rw (suffix-is, e) (Leftmost.expand (production-is g a b d) (run→leftmost h n))

-- a stack after its finished places are gone: nothing, or a token or a nonterminal on top
data Settled (g : Grammar) (S : List ℕ) : Type 0 where
  empty : spells g S ≡ [] → ((w : List ℕ) (i : ℕ) → i ≤ length w → Run g w S i i []) → Settled g S
  token : (p k : ℕ) (S' : List ℕ) → facing g p ≡ Token k → spells g S ≡ Token k ∷ spells g (suc p ∷ S')
      → ((w : List ℕ) (i j : ℕ) (r : List ℕ) → Run g w (p ∷ S') i j r → Run g w S i j r) → Settled g S
  call : (p a : ℕ) (S' : List ℕ) → facing g p ≡ Nonterminal a → spells g S ≡ Nonterminal a ∷ spells g (suc p ∷ S')
      → ((w : List ℕ) (i j : ℕ) (r : List ℕ) → Run g w (p ∷ S') i j r → Run g w S i j r) → Settled g S

settle : (g : Grammar) (S : List ℕ) → Settled g S
unfolding spells
settle g [] = empty refl (λ w i l. Run.done l)
settle g (p ∷ S) = go (facing g p) refl (settle g S)
  where
    under : facing g p ≡ End → Settled g S → Settled g (p ∷ S)
    under e (empty q h) = empty (rw (suffix-is, e) q) (λ w i l. Run.finish e (h w i l))
    under e (token p' k S' f q h) = token p' k S' f (rw (suffix-is g p, e) q) (λ w i j r x. Run.finish e (h w i j r x))
    under e (call p' a S' f q h) = call p' a S' f (rw (suffix-is g p, e) q) (λ w i j r x. Run.finish e (h w i j r x))

    go : (s : Symbol) → facing g p ≡ s → Settled g S → Settled g (p ∷ S)
    go End e h = under e h
    go (Token k) e h = token p k S e (rw (suffix-is g p, e)) (λ w i j r x. x)
    go (Nonterminal a) e h = call p a S e (rw (suffix-is g p, e)) (λ w i j r x. x)

-- ---- and back: a textbook derivation of what a stack spells is a run of the stack
module _ {g : Grammar} {w : List ℕ} where
  pub leftmost→run : {α : List Symbol} {r v : List ℕ} → Leftmost (of_places g) α r v → (S : List ℕ) (i : ℕ) → spells g S ≡ α → drop i w ≡ v
      → i ≤ length w
      → Run g w S i (length w) r
  unfolding spells
  leftmost→run Leftmost.done S i e d l = go (settle g S)
    where
      go : Settled g S → Run g w S i (length w) []
      go (empty q h) = let k : i ≡ length w = omega (arith, sym (length-drop i w) ∙ ap length d) in rw (← k) (h w i l)
      go (token p k S' f q h) = clash (cc)
      go (call p a S' f q h) = clash (cc)
  leftmost→run (Leftmost.match {k = k} {t = t} {α = α} {r = r} {w = v} c x) S i e d l = go (settle g S) (leftmost→run x)
    where
      go : Settled g S → ((S : List ℕ) (i : ℕ) → spells g S ≡ α → drop i w ≡ v → i ≤ length w → Run g w S i (length w) r)
          → Run g w S i (length w) r
      go (empty q h) rec = clash (cc)
      go (token p k' S' f q h) rec =
          let n = get-of-drop w i d in
          h w i (length w) r (Run.match (cc) n.0 c (rec (suc p ∷ S') (suc i) (cc) n.1 (get-below w i n.0)))
      go (call p a S' f q h) rec = clash (cc)
  leftmost→run (Leftmost.expand {a = a} {b = b} {β = β} {α = α} {r = r} {w = v} c x) S i e d l =
      go (settle g S) (leftmost→run x) (production-from g a b c)
    where
      go : Settled g S → ((S : List ℕ) (i : ℕ) → spells g S ≡ β ++ α → drop i w ≡ v → i ≤ length w → Run g w S i (length w) r)
          → (f : ℕ) × (first g a b ≡ some f) × (suffix g f ≡ β) → Run g w S i (length w) (b ∷ r)
      go (empty q h) rec n = clash (cc)
      go (token p k S' f q h) rec n = clash (cc)
      go (call p a' S' f q h) rec n = h w i (length w) (b ∷ r) (Run.expand (cc) n.1 (rec (n.0 ∷ suc p ∷ S') i (cc) d l))
