-- The loop of `advance`, turn by turn, and its ways out.
use mathlib.Core.Path.{◌≡◌, refl, sym, ◌∙◌}
use mathlib.Core.Bool.{Bool, true, false, not}
use mathlib.Core.Option.{none, some}
use mathlib.Core.List.{List, [], ◌∷◌}
use Prim.Native.Nat.{ℕ, zero, suc, ◌+◌, ◌-◌, ◌*◌, ◌≤◌, ◌<◌}
use native.Mathlib.Numerals.{add-one}
use native.Mathlib.Omega.{arith}
use native.Mathlib.Decide.{dec_lt}
use lib.Dec.{T}
use lib.ListN.{length, get_or, get_elem?}
use Rattle.base.proofs.Booleans.{clash}
use Rattle.grammar.specs.declared.Symbol.{Symbol}
use Rattle.grammar.specs.declared.Symbol.TheVariants.{Token, Nonterminal, End}
use Rattle.grammar.specs.Grammar.{Grammar, facing, admits, first}
use Rattle.grammar.specs.inside.Tables.{place_words, grammar_in}
use Rattle.grammar.proofs.WordLaws.{facing-past}
use Rattle.derivation.specs.Runs.{marked}
use Rattle.derivation.specs.inside.Frames.{frame_words}
use Rattle.derivation.proofs.MarkedCells.{length_marked}
use Rattle.machine.specs.inside.Moves.{MovesOn, popped, matched, over, other, early, ToCall, ToStop, ToEnd, Advanced, Entered}
use Rattle.machine.specs.declared.steps.Turn.{Turn}
use Rattle.machine.specs.declared.steps.At.{At}

-- behind the last token there is none
pub no-token : (v : List ℕ) (i : ℕ) → length v ≤ i → get_elem? v i ≡ none
no-token [] i l = refl
no-token (y ∷ v) zero l = absurd (omega arith)
no-token (y ∷ v) (suc i) l = no-token v i (omega arith)

-- a place that faces a symbol is one of the tables
pub place-small : (t : List ℕ) (p : ℕ) {s : Symbol} → facing (grammar_in t) p ≡ s → (s ≡ End → ⊥) → p < place_words
place-small t p e n = elim (dec_lt p place_words) [ yes l ↦ l | no l ↦ absurd (n (sym e ∙ facing-past t p (omega arith))) ]

module _ {g : Grammar} (w : List ℕ) {ws : List ℕ} {base p₀ d₀ i₀ p d i : ℕ} (x : MovesOn g (marked w) ws base p₀ d₀ i₀ p d i) where
  -- ---- turns
  pub turn-pop : {r : ℕ} → facing g p ≡ End → (d ≡ 0 → ⊥) → r ≡ get_or ws (base + frame_words * (d - 1)) 0
      → MovesOn g (marked w) ws base p₀ d₀ i₀ r (d - 1) i
  turn-pop {r} e n q = go d refl x
    where
      go : (k : ℕ) → d ≡ k → MovesOn g (marked w) ws base p₀ d₀ i₀ p k i → MovesOn g (marked w) ws base p₀ d₀ i₀ r (d - 1) i
      go zero z y = absurd (n z)
      go (suc k) z y = let u : d - 1 ≡ k = omega arith in rw (q, u) (popped y e)

  pub turn_match : {k u : ℕ} {b : Bool} → facing g p ≡ Token k → get_elem? (marked w) i ≡ some u → b ≡ admits g k u → not b ≡ false
      → MovesOn g (marked w) ws base p₀ d₀ i₀ (p + 1) d (i + 1)
  turn_match {k} {u} {b} e f q n = rw (add-one p, add-one i) (matched x e f (go b q n))
    where
      go : (b : Bool) → b ≡ admits g k u → not b ≡ false → T (admits g k u)
      go true q n = rw (← q) tt
      go false q n = clash (cc)

  -- ---- ways out
  pub out-call : {a : ℕ} → facing g p ≡ Nonterminal a → ToCall g (marked w) ws base p₀ d₀ i₀ (p + 1) d i a
  out-call e = record { place = p; behind = add-one p; faces = e; moves = x }

  pub out-over : {k : ℕ} → facing g p ≡ Token k → length w < i → ToStop g (marked w) ws base p₀ d₀ i₀
  out-over e l =
      record { place = p; depth = d; position = i; dead = over e (no-token (marked w) i (omega (arith, length_marked w))); moves = x }

  pub out-other : {k u : ℕ} {b : Bool} → facing g p ≡ Token k → get_elem? (marked w) i ≡ some u → b ≡ admits g k u → not b ≡ true
      → ToStop g (marked w) ws base p₀ d₀ i₀
  out-other {k} {u} {b} e f q n = record { place = p; depth = d; position = i; dead = other e f (go b q n); moves = x }
    where
      go : (b : Bool) → b ≡ admits g k u → not b ≡ true → admits g k u ≡ false
      go true q n = clash (cc)
      go false q n = sym q

  pub out-early : facing g p ≡ End → d ≡ 0 → (i ≡ length w + 1 → ⊥) → ToStop g (marked w) ws base p₀ d₀ i₀
  out-early e z n =
      record {
        place = p;
        depth = d;
        position = i;
        dead = early e z (λ q. n (q ∙ (length_marked w ∙ sym (add-one (length w)))));
        moves = x;
      }

  pub out-end : facing g p ≡ End → d ≡ 0 → i ≡ length w + 1 → ToEnd g (marked w) ws base p₀ d₀ i₀
  out-end e z q =
      record { place = p; position = i; faces = e; read = q ∙ (add-one (length w) ∙ sym (length_marked w)); moves = rw z at x }

-- ---- an alternative is entered, over the frame that was pushed for it
pub entered-is : (t w ws : List ℕ) (base a b : ℕ) (at : At) {f : ℕ} {r : Turn} → first (grammar_in t) a b ≡ some f
    → Advanced (grammar_in t) (marked w) ws base f (at.depth + 1) at.position r → Entered t w ws base a b (suc at.depth) at.position r
entered-is t w ws base a b at {f} e x = record { start = f; begins = e; advanced = rw (add-one at.depth) at x }
