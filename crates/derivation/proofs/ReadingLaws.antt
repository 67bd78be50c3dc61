-- Reading a whole note: what is accepted is the textbook's derivation of the note from nonterminal 0; and under a right chooser no sentence is stuck.
use mathlib.Core.Path.{◌≡◌}
use mathlib.Core.List.{List, [], ◌∷◌}
use Prim.Native.Nat.{ℕ, suc, ◌+◌, ◌*◌, ◌≤◌}
use native.Mathlib.Omega.{arith}
use lib.ListN.{length}
use Rattle.grammar.specs.declared.Symbol.TheVariants.{Token, Nonterminal, End}
use Rattle.grammar.specs.Limits.{end_place, end_mark}
use Rattle.grammar.specs.Grammar.{Grammar, facing, of_places}
use Rattle.grammar.specs.Derivation.{Leftmost, Derives}
use Rattle.derivation.specs.Runs.{marked}
use Rattle.derivation.specs.Machine.{Chooser, accepted, stuck, reading}
use Rattle.derivation.specs.inside.Choosers.{Served, Ground, Reliable}
use Rattle.derivation.proofs.WholeNotes.{whole-call, whole-sentence}
use Rattle.derivation.proofs.MachineLaws.{call-sound}
use Rattle.derivation.proofs.MachineLive.{call-live}

-- a sentence has an alternative of nonterminal 0 that serves
pub sentence-serves : (g : Grammar) → facing g end_place ≡ Token end_mark → facing g (suc end_place) ≡ End → (w : List ℕ)
    → Derives (of_places g) (Nonterminal 0 ∷ []) w
    → Served g (marked w) (end_place ∷ []) 0 0
sentence-serves g ends last w h = let (b, r, (f, e, x)) = (whole-sentence g ends last 0 w).1 h in (b, (f, e, (r, x)))

module _ {C : Type 0} (g : Grammar) (ends : facing g end_place ≡ Token end_mark) (last : facing g (suc end_place) ≡ End) (w : List ℕ) (choose : Chooser C)
  where
    -- under any chooser what is accepted is a derivation, and has room
    pub reading-sound : (room : ℕ) (c : C) (s : List ℕ) → (reading g (marked w) choose room c).outcome ≡ accepted s
        → Leftmost (of_places g) (Nonterminal 0 ∷ []) s w × (length s ≤ room)
    unfolding reading
    reading-sound room c s q =
        let x = call-sound g (marked w) choose (suc (2 * room + length (marked w))) (end_place ∷ []) 0 0 room c s q in
        (rw (← x.row) ((whole-call g ends last 0 x.alternative x.rest w).0 (x.place, x.stands, x.behind)), x.fits)

    -- under a right chooser a sentence is accepted, or there is no room
    pub reading-live : (Holds : C → Type 0) (Stands : List ℕ → ℕ → Type 0) (Waits : List ℕ → ℕ → ℕ → Type 0) → Ground g Stands Waits
        → Reliable Holds choose g (marked w) Waits → Waits (end_place ∷ []) 0 0 → (room : ℕ) (c : C) → Holds c → Derives (of_places g) (Nonterminal 0 ∷ []) w
        → ¬ ((reading g (marked w) choose room c).outcome ≡ stuck)
    unfolding reading
    reading-live Holds Stands Waits ground right waits room c h d q =
        call-live Holds g (marked w) Stands Waits ground choose right (suc (2 * room + length (marked w))) (end_place ∷ []) 0 0 room c (omega arith) h waits
        (sentence-serves g ends last w d) q
