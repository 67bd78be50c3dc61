-- The loops of left recursion by cases, as the code meets them; and that the rows they end with are where moves lead.
use mathlib.Core.Path.{◌≡◌, refl, sym, ap, ◌∙◌}
use mathlib.Core.Bool.{Bool, true, false, cond, not, ◌&&◌, ◌||◌}
use mathlib.Core.List.{List, [], ◌∷◌}
use Prim.Native.Nat.{ℕ, suc, ◌+◌, ◌≤◌, ◌<◌}
use native.Mathlib.Numerals.{add-one}
use lib.Bits.{bit_or}
use lib.Dec.{eqb, eqb→eq, eqb_refl}
use lib.ListN.{length, get_or, set, drop, drop_of_length-le}
use lib.Seq.{drop-cons, set-get_or}
use borrow.Author.Tests.{not-true, not-false, eq-eqb, ne_eqb}
use Rattle.base.specs.Bits.{test_bit, set_bit}
use Rattle.base.specs.Rounds.{any_of}
use Rattle.base.proofs.Booleans.{same, or_assoc, or-none}
use Rattle.base.proofs.Bits.{test-set, test-none}
use Rattle.grammar.specs.declared.Symbol.{Symbol}
use Rattle.grammar.specs.declared.Symbol.TheVariants.{Token, Nonterminal, End}
use Rattle.grammar.specs.Grammar.{Grammar, suffix, alternatives}
use Rattle.corners.specs.Corners.{leads}
use Rattle.corners.specs.inside.Steps.{LeadsTo, MovesFrom, join_of, pivot_below, pivot_of, reach_of}

-- ---- Booleans
eqb-sym : (a b : ℕ) → eqb a b ≡ eqb b a
eqb-sym a b = same (eqb a b) (eqb b a) (λ t. rw (eqb→eq a b t) (eqb_refl b)) (λ t. rw (eqb→eq b a t) (eqb_refl a))

-- ---- along a production
-- what the set and the symbols still to come lead to together is what the whole leads to
abbrev pub Onward : ℕ → ℕ → List Symbol → ℕ → List Symbol → Type 0
Onward nullable from whole x rest = (c : ℕ) → (test_bit x c || leads (test_bit nullable) c rest) ≡ (test_bit from c || leads (test_bit nullable) c whole)

module _ (nullable from : ℕ) (whole : List Symbol) (x : ℕ) (rest : List Symbol) (i : Onward nullable from whole x rest) where
  pub left-ends : rest ≡ [] → LeadsTo nullable from whole x
  unfolding LeadsTo leads
  left-ends e c = sym (or-none (test_bit x c)) ∙ rw e at (i c)

  -- a symbol that is no nonterminal leads to none
  pub left-token : {s : Symbol} {next : List Symbol} → rest ≡ s ∷ next → ((b : ℕ) → s ≡ Nonterminal b → ⊥) → LeadsTo nullable from whole x
  unfolding LeadsTo leads
  left-token {s} {next} e n c = go s e n
    where
      go : (s : Symbol) → rest ≡ s ∷ next → ((b : ℕ) → s ≡ Nonterminal b → ⊥) → test_bit x c ≡ (test_bit from c || leads (test_bit nullable) c whole)
      go (Token k) e n = sym (or-none (test_bit x c)) ∙ rw e at (i c)
      go End e n = sym (or-none (test_bit x c)) ∙ rw e at (i c)
      go (Nonterminal b) e n = absurd (n b refl)

  module _ {b : ℕ} {s : Symbol} {next : List Symbol} (e : rest ≡ s ∷ next) (z : s ≡ Nonterminal b)
      {y : ℕ} (q : y ≡ set_bit x b) {d : Bool} (h : d ≡ test_bit nullable b) where
    -- the set with b, and the rest if b is nullable
    joined : (c : ℕ) → (test_bit y c || (d && leads (test_bit nullable) c next)) ≡ (test_bit from c || leads (test_bit nullable) c whole)
    unfolding leads
    joined c =
        rw (q, h, test-set, eqb-sym c b) (or_assoc (test_bit x c) (eqb b c) (test_bit nullable b && leads (test_bit nullable) c next) ∙ rw (e, z) at (i c))

    pub left-stops : not d ≡ true → LeadsTo nullable from whole y
    unfolding LeadsTo
    left-stops n c =
        sym (or-none (test_bit y c)) ∙ ap (λ (v : Bool). test_bit y c || (v && leads (test_bit nullable) c next)) (sym (not-true d n)) ∙ joined c

    pub left-goes : not d ≡ false → Onward nullable from whole y next
    left-goes n c =
        ap (λ (v : Bool). test_bit y c || (v && leads (test_bit nullable) c next)) (sym (not-false d n)) ∙ joined c

-- ---- over the productions of a nonterminal
-- what the set and the productions from k on lead to together is what all of them lead to
abbrev pub Rest : Grammar → ℕ → ℕ → ℕ → List ℕ → Type 0
Rest g nullable a x rest =
    (c : ℕ) → (test_bit x c || any_of (λ f. leads (test_bit nullable) c (suffix g f)) rest)
    ≡ any_of (λ f. leads (test_bit nullable) c (suffix g f)) (alternatives g a)

module _ (g : Grammar) (nullable a : ℕ) (places : List ℕ) where
  pub moves-begin : places ≡ alternatives g a → Rest g nullable a 0 places
  moves-begin e c = rw (test-none, e)

  module _ (x k : ℕ) (i : Rest g nullable a x (drop k places)) where
    pub moves_next : (f y : ℕ) → k < length places → f ≡ get_or places k 0 → LeadsTo nullable x (suffix g f) y → Rest g nullable a y (drop (k + 1) places)
    unfolding any_of LeadsTo
    moves_next f y l q z c =
        rw (z c, add-one) (or_assoc (test_bit x c) (leads (test_bit nullable) c (suffix g f))
        (any_of (λ f. leads (test_bit nullable) c (suffix g f)) (drop (suc k) places))
        ∙ (rw (drop-cons places k 0 l, ← q) at (i c)))

    pub moves-done : length places ≤ k → MovesFrom nullable g a x
    unfolding any_of MovesFrom
    moves-done h c = sym (or-none (test_bit x c)) ∙ rw (drop_of_length-le places {i = k} h) at (i c)

-- ---- the code's ways through a turn
pub through-more : (row b a : ℕ) (rows₀ rows : List ℕ) → rows ≡ pivot_below row b a rows₀ → {x : ℕ} → x
    ≡ cond (test_bit (get_or rows a 0) b) (bit_or (get_or rows a 0) row) (get_or rows a 0)
    → set rows a x ≡ pivot_below row b (a + 1) rows₀
unfolding pivot_below join_of
through-more row b a rows₀ rows i e = rw (e, add-one, ← i) (go (test_bit (get_or rows a 0) b))
  where
    go : (d : Bool) → set rows a (cond d (bit_or (get_or rows a 0) row) (get_or rows a 0)) ≡ cond d (set rows a (bit_or (get_or rows a 0) row)) rows
    go true = refl
    go false = set-get_or rows a 0

module _ (n b : ℕ) (rows₀ rows : List ℕ) (i : rows ≡ reach_of n b rows₀) {row : ℕ} (e : row ≡ get_or rows b 0) where
  pub reach-pivot : {after : List ℕ} → (row ≡ 0 → ⊥) → after ≡ pivot_below row b n rows → after ≡ reach_of n (b + 1) rows₀
  unfolding reach_of pivot_of
  reach-pivot h q = rw (q, add-one, ← i, ← e, ne_eqb row 0 h)

  pub reach-empty : row ≡ 0 → rows ≡ reach_of n (b + 1) rows₀
  unfolding reach_of pivot_of
  reach-empty h = rw (add-one, ← i, ← e, eq-eqb row 0 h)
