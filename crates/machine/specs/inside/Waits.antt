-- Where a nonterminal waits: what is known there, and what a choice by the cells leaves.
use Rattle.std.specs.Prelude.{◌≡◌, List, [], ◌∷◌, ℕ, suc, ◌+◌, ◌*◌, ◌≤◌, ◌<◌, T, length}
use Rattle.std.proofs.Math.Option.{some}
use Rattle.grammar.specs.declared.Symbol.TheVariants.{Nonterminal}
use Rattle.grammar.specs.Limits.{end_place}
use Rattle.grammar.specs.Grammar.{facing, first}
use Rattle.grammar.specs.inside.Tables.{grammar_in, nonterminals_in}
use Rattle.derivation.specs.Runs.{marked}
use Rattle.derivation.specs.Cells.{derives?, runs?}
use Rattle.derivation.specs.Machine.{lowest}
use Rattle.derivation.specs.inside.Frames.{frame_words, Pushed}
use Rattle.derivation.specs.inside.Ready.{Ready}
use Rattle.derivation.specs.inside.Entries.{FramesOpen}
use Rattle.cells.specs.inside.Chart.{Lent, LentAt, Charted}
use Rattle.machine.specs.inside.Frames.{frame_has, EveryFrame, Good}
use Rattle.machine.specs.inside.Choice.{or_zero}
use Rattle.machine.specs.inside.Space.{Named, Roomy, ground, Spaced, opened}
use Rattle.machine.specs.declared.steps.At.{At}
use Rattle.machine.specs.declared.steps.Space.{Space}

-- nonterminal a waits at position i over d frames and its return place q: the reading begins, or a place faces it. K says which frames' sets stand.
pub data Waits (t w ws : List ℕ) (K : ℕ → Type 0) (d q a i : ℕ) : Type 0 where
  begins : d ≡ 0 → q ≡ end_place → a ≡ 0 → i ≡ 0 → Waits t w ws K d q a i
  called : (p : ℕ) → q ≡ suc p → facing (grammar_in t) p ≡ Nonterminal a
      → FramesOpen (grammar_in t) (end_place ∷ []) (length w) ws (ground t w) d p i
      → Good (grammar_in t) (marked w) ws (ground t w) K d p i → Waits t w ws K d q a i

-- what a choice by the cells rests on: they are right, and every frame's set stands
pub record Calling (t w ws : List ℕ) (s : Space) (at : At) (a : ℕ) : Type 0 where
  pub ready : Ready t
  pub spaced : Spaced t w s
  pub lent : Lent (grammar_in t).size (length w) ws
  pub charted : Charted t w ws
  pub waits : Waits t w ws EveryFrame at.depth at.place a at.position

-- what a choice by a set of positions rests on: cells at this position, a nonterminal of the grammar, room for a frame, a place that fits a word
pub record Choosing (t ws : List ℕ) (base : ℕ) (at : At) (a : ℕ) : Type 0 where
  pub ready : Ready t
  pub lent : LentAt (grammar_in t).size at.position ws
  pub named : a < nonterminals_in t
  pub roomy : Roomy t ws base at.depth a
  pub small : at.place < 4294967296

-- what entering alternative b of nonterminal a rests on: the frame of its return place is there
pub record Enters (t ws : List ℕ) (base : ℕ) (at : At) (a b : ℕ) : Type 0 where
  pub ready : Ready t
  pub named : Named t a b
  pub room : base + frame_words * suc at.depth ≤ length ws

-- r is the plain chooser's alternative for a over the stack that stays open, 0 for none; if there is one, the stack's top is frame d, with the right set
pub record Called (t w ws after : List ℕ) (d q a i r : ℕ) : Type 0 where
  pub chosen : r ≡ or_zero (lowest (grammar_in t) (marked w) (opened t w ws d q) a i)
  pub kept : length after ≡ length ws
  pub charted : Charted t w after
  pub pushed : ¬ (r ≡ 0) → Pushed ws after (ground t w) d q
  pub sets : (f m : ℕ) → first (grammar_in t) a r ≡ some f → T (derives? (grammar_in t) (marked w) f i m)
      → frame_has after (ground t w) d m ≡ runs? (grammar_in t) (marked w) (opened t w ws d q) m
