-- Moves of the machine that need no choice: over ends of productions, and over tokens that may stand where they stand.
use Rattle.std.specs.Prelude.{◌≡◌, false, List, ℕ, suc, ◌+◌, ◌*◌, T, length, get_or}
use Rattle.std.proofs.Math.Option.{none, some}
use Rattle.std.proofs.Math.ListN.{get_elem?}
use Rattle.grammar.specs.declared.Symbol.TheVariants.{Token, Nonterminal, End}
use Rattle.grammar.specs.Grammar.{Grammar, facing, admits, first}
use Rattle.grammar.specs.inside.Tables.{grammar_in}
use Rattle.derivation.specs.Runs.{marked}
use Rattle.derivation.specs.inside.Frames.{frame_words}
use Rattle.machine.specs.declared.steps.Turn.{Turn}
use Rattle.machine.specs.declared.steps.Turn.TheVariants.{Calls, Stuck, Ended}

-- from place p₀ over d₀ frames at position i₀ to place p over d frames at position i, in the note w with its mark
pub data MovesOn (g : Grammar) (w ws : List ℕ) (base p₀ d₀ i₀ : ℕ) : ℕ → ℕ → ℕ → Type 0 where
  stay : MovesOn g w ws base p₀ d₀ i₀ p₀ d₀ i₀
  popped : {p d i : ℕ} → MovesOn g w ws base p₀ d₀ i₀ p (suc d) i → facing g p ≡ End
      → MovesOn g w ws base p₀ d₀ i₀ (get_or ws (base + frame_words * d) 0) d i
  matched : {p d i k u : ℕ} → MovesOn g w ws base p₀ d₀ i₀ p d i → facing g p ≡ Token k → get_elem? w i ≡ some u → T (admits g k u)
      → MovesOn g w ws base p₀ d₀ i₀ (suc p) d (suc i)

-- no step leads on from here: no token is left; the token may not stand here; the last production ends, and the note does not
pub data Dead (g : Grammar) (w : List ℕ) (p d i : ℕ) : Type 0 where
  over : {k : ℕ} → facing g p ≡ Token k → get_elem? w i ≡ none → Dead g w p d i
  other : {k u : ℕ} → facing g p ≡ Token k → get_elem? w i ≡ some u → admits g k u ≡ false → Dead g w p d i
  early : facing g p ≡ End → d ≡ 0 → ¬ (i ≡ length w) → Dead g w p d i

module _ (g : Grammar) (w ws : List ℕ) (base p₀ d₀ i₀ : ℕ) where
  -- the moves lead to where nonterminal a waits: the place behind it is q
  pub record ToCall (q d i a : ℕ) : Type 0 where
    pub place : ℕ
    pub behind : q ≡ suc place
    pub faces : facing g place ≡ Nonterminal a
    pub moves : MovesOn g w ws base p₀ d₀ i₀ place d i

  -- the moves lead to where nothing fits
  pub record ToStop : Type 0 where
    pub place : ℕ
    pub depth : ℕ
    pub position : ℕ
    pub dead : Dead g w place depth position
    pub moves : MovesOn g w ws base p₀ d₀ i₀ place depth position

  -- the moves lead to the end of the last production, and of the note
  pub record ToEnd : Type 0 where
    pub place : ℕ
    pub position : ℕ
    pub faces : facing g place ≡ End
    pub read : position ≡ length w
    pub moves : MovesOn g w ws base p₀ d₀ i₀ place 0 position

  -- where the moves lead to, as the code says it
  abbrev pub Advanced : Turn → Type 0
  Advanced (Calls at a) = ToCall at.place at.depth at.position a
  Advanced Stuck = ToStop
  Advanced Ended = ToEnd

-- alternative b of nonterminal a is entered at position i over d frames, of which the topmost is where it returns to: from its first place on
pub record Entered (t w ws : List ℕ) (base a b d i : ℕ) (r : Turn) : Type 0 where
  pub start : ℕ
  pub begins : first (grammar_in t) a b ≡ some start
  pub advanced : Advanced (grammar_in t) (marked w) ws base start d i r
