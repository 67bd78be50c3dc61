-- The plain reading of a whole note follows the chosen derivation of the note, the end mark and the end place taken away.
use mathlib.Core.Path.{◌≡◌, refl, sym, ◌∙◌}
use mathlib.Core.Option.{some}
use mathlib.Core.List.{List, [], ◌∷◌, ◌++◌, append-nil}
use Prim.Native.Nat.{ℕ, suc, ◌+◌, ◌*◌, ◌≤◌, ◌<◌, suc-le-suc}
use native.Mathlib.Omega.{arith}
use lib.ListN.{length}
use Rattle.base.proofs.Booleans.{clash}
use Rattle.grammar.specs.declared.Symbol.{Symbol}
use Rattle.grammar.specs.declared.Symbol.TheVariants.{Token, Nonterminal}
use Rattle.grammar.specs.Limits.{end_place, end_mark}
use Rattle.grammar.specs.Grammar.{Grammar, first, suffix, production, of_places}
use Rattle.grammar.specs.inside.Ordered.{Ordered}
use Rattle.grammar.specs.Derivation.{Derives}
use Rattle.grammar.proofs.GrammarLaws.{suffix-is, production-is}
use Rattle.derivation.specs.Runs.{marked}
use Rattle.derivation.specs.inside.BigSteps.{spells}
use Rattle.derivation.specs.Machine.{lowest, plainly, accepted, full, Action, on_call, follow_step, run_call, reading}
use Rattle.derivation.specs.Runs.{Serves}
use Rattle.derivation.specs.Chosen.{Chosen}
use Rattle.derivation.proofs.MachineLaws.{Called, no_room, unnamed, absent, taken, call-seen, prefix-accepted, prefix-full}
use Rattle.derivation.proofs.WholeNotes.{leftmost-mark}
use Rattle.derivation.proofs.ChosenLaws.{NoneLower, chosen→leftmost, chosen-call, same-lowest, chosen-mark, chosen-unmark}
use Rattle.derivation.proofs.LowestReading.{derives→serves, serves→derives, named, plain_run, run-follows, run-crams}

module _ (g : Grammar) (ordered : Ordered g) (w : List ℕ) where
  spells-end : spells g (end_place ∷ []) ≡ Token end_mark ∷ []
  unfolding spells
  spells-end = rw (suffix-is g end_place, ordered.marked_end, suffix-is g (suc end_place), ordered.end-past)

  spells-over : (f : ℕ) → spells g (f ∷ end_place ∷ []) ≡ suffix g f ++ (Token end_mark ∷ [])
  unfolding spells
  spells-over f = rw (suffix-is g end_place, ordered.marked_end, suffix-is g (suc end_place), ordered.end-past)

  -- no alternative below b serves over the end place
  abbrev pub Least : ℕ → Type 0
  Least b = (c : ℕ) → Serves g (marked w) (end_place ∷ []) 0 0 c → b ≤ c

  -- so none below b derives the note
  start-lower : (b : ℕ) → Least b → NoneLower (of_places g) 0 b [] w
  start-lower b least c γ l e (r, x) =
      let y = (leftmost-mark g γ end_mark r w).1 (rw append-nil at x) in
      let z = least c (derives→serves g (marked w) (end_place ∷ []) 0 0 c (omega arith) e (r, rw spells-end y)) in
      omega arith

  -- an alternative that serves over the end place derives the note
  start-derives : (b : ℕ) {γ : List Symbol} → production g 0 b ≡ some γ → Serves g (marked w) (end_place ∷ []) 0 0 b → Derives (of_places g) (γ ++ []) w
  start-derives b {γ} e x =
      let (r, y) = serves→derives g (marked w) (end_place ∷ []) 0 0 b e x in
      (r, rw append-nil ((leftmost-mark g γ end_mark r w).0 (rw spells-end at y)))

  module _ (b f k room : ℕ) (c : Unit {0}) (e : first g 0 b ≡ some f) (least : Least b) where
    -- what is accepted is chosen
    pub start-chosen : (s : List ℕ) → (plain_run g (marked w) k (f ∷ end_place ∷ []) 0 room c).outcome ≡ accepted s
        → Chosen (of_places g) (Nonterminal 0 ∷ []) (b ∷ s) w
    start-chosen s q =
        let x = run-follows g (marked w) k (f ∷ end_place ∷ []) 0 room c s (omega arith) q in
        let y : Chosen (of_places g) (suffix g f) s w = chosen-unmark g end_mark x (suffix g f) w (spells-over f) refl in
        Chosen.expand {α = []} {r = s} {w = w} (production-is g 0 b e) (start-lower b least) (rw append-nil y)

    -- where it is full, the chosen derivation is longer
    pub start-crams : Serves g (marked w) (end_place ∷ []) 0 0 b → (plain_run g (marked w) k (f ∷ end_place ∷ []) 0 room c).outcome ≡ full
        → (d : List ℕ) → Chosen (of_places g) (Nonterminal 0 ∷ []) d w → suc room < length d
    start-crams served q d x =
        let h = chosen-call {α = []} {a = 0} x refl in
        let m : b ≡ h.alternative = same-lowest 0 b h.alternative (production-is g 0 b e) (start-lower b least)
        (start-derives b (production-is g 0 b e) served) h.stands h.lowest (h.rest, chosen→leftmost h.remaining) in
        let v : some (suffix g f) ≡ some h.symbols = sym (production-is g 0 b e) ∙ (rw m h.stands) in
        let z : suffix g f ≡ h.symbols = cc in
        let y : Chosen (of_places g) (suffix g f) h.rest w = rw z (rw append-nil at h.remaining) in
        let j = run-crams g (marked w) k (f ∷ end_place ∷ []) 0 room c h.rest (omega arith) q (rw (spells-over f) (chosen-mark g end_mark y)) in
        rw h.row (suc-le-suc j)

  -- ---- the whole reading
  abbrev First : ℕ → Action → Type 0
  First n x = Called g (lowest g (marked w)) (end_place ∷ []) 0 0 n x

  call-chosen : (k n : ℕ) (c : Unit {0}) (d : List ℕ) (x : Action) → First n x → (follow_step (plain_run g (marked w) k) 0 n x c).outcome ≡ accepted d
      → Chosen (of_places g) (Nonterminal 0 ∷ []) d w
  call-chosen k n c d x no_room q = clash (cc)
  call-chosen k n c d x (unnamed e) q = clash (cc)
  call-chosen k n c d x (absent e f) q = clash (cc)
  call-chosen k n c d x (taken {b = b} {f = f} {room = room} e y) q =
      let (s, u, z) = prefix-accepted b (plain_run g (marked w) k (f ∷ end_place ∷ []) 0 room c).outcome {r = d} q in
      rw (← z) (start-chosen b f k room c y (named g (marked w) (end_place ∷ []) 0 0 e).least s u)

  -- what is accepted is the chosen derivation
  pub reading-chosen : (n : ℕ) (c : Unit {0}) (d : List ℕ) → (reading g (marked w) (plainly g (marked w)) n c).outcome ≡ accepted d
      → Chosen (of_places g) (Nonterminal 0 ∷ []) d w
  unfolding reading run_call
  reading-chosen n c d q =
      let m = on_call g (plainly g (marked w)) c (end_place ∷ []) 0 0 n in
      call-chosen (suc (2 * n + length (marked w))) n m.state d m.step (call-seen g (plainly g (marked w)) c (end_place ∷ []) 0 0 n) q

  call-crams : (k n : ℕ) (c : Unit {0}) (d : List ℕ) → Chosen (of_places g) (Nonterminal 0 ∷ []) d w → (x : Action) → First n x
      → (follow_step (plain_run g (marked w) k) 0 n x c).outcome ≡ full → n < length d
  call-crams k n c d h x no_room q = let y = chosen-call {α = []} {a = 0} h refl in rw y.row (omega arith)
  call-crams k n c d h x (unnamed e) q = clash (cc)
  call-crams k n c d h x (absent e f) q = clash (cc)
  call-crams k n c d h x (taken {b = b} {f = f} {room = room} e y) q =
      let m = named g (marked w) (end_place ∷ []) 0 0 e in
      start-crams b f k room c y m.least m.serves (prefix-full b (plain_run g (marked w) k (f ∷ end_place ∷ []) 0 room c).outcome q) d h

  -- where the row is full, the chosen derivation is longer
  pub reading-crams : (n : ℕ) (c : Unit {0}) (d : List ℕ) → (reading g (marked w) (plainly g (marked w)) n c).outcome ≡ full
      → Chosen (of_places g) (Nonterminal 0 ∷ []) d w → n < length d
  unfolding reading run_call
  reading-crams n c d q h =
      let m = on_call g (plainly g (marked w)) c (end_place ∷ []) 0 0 n in
      call-crams (suc (2 * n + length (marked w))) n m.state d h m.step (call-seen g (plainly g (marked w)) c (end_place ∷ []) 0 0 n) q
