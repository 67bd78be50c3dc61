-- D1: a note is a sentence exactly if its length is an end of the start symbol from 0.
use mathlib.Core.Path.{◌≡◌, refl}
use mathlib.Core.Logic.{◌↔◌}
use mathlib.Core.List.{List}
use Prim.Native.Nat.{ℕ}
use native.Mathlib.Omega.{arith}
use lib.Dec.{T}
use lib.ListN.{length}
use Rattle.base.proofs.Booleans.{same}
use Rattle.grammar.specs.Grammar.{Grammar, of_places}
use Rattle.grammar.specs.inside.Ordered.{Ordered}
use Rattle.derivation.specs.Runs.{marked}
use Rattle.derivation.specs.Viable.{Sentence}
use Rattle.derivation.specs.Plain.{sentence?}
use Rattle.derivation.proofs.WholeNotes.{whole-sentence}
use Rattle.derivation.proofs.SentenceTest.{sentence-iff}
use Rattle.first_follow.specs.inside.Masks.{Masks, Closed}
use Rattle.filtering.specs.inside.Filtered.{EndsBy, PairEnds}
use Rattle.filtering.specs.inside.OpenStacks.{bottom}
use Rattle.filtering.specs.inside.Cover.{Asked}
use Rattle.filtering.specs.inside.Known.{State, Holds, known, tells}
use Rattle.filtering.proofs.KnownLaws.{known-right, tells-right}
use Rattle.filtering.proofs.OpensLaws.{opens-bottom, opens_by}

module _ {g : Grammar} {M : Masks} (order : Ordered g) (c : Closed g M) (w : List ℕ) where
  sentence-ends : Sentence (of_places g) w ↔ PairEnds g M (marked w) 0 0 (length w)
  sentence-ends = (to, from)
    where
      at-end : (b m : ℕ) → EndsBy g M (marked w) 0 0 b m → m ≡ length w → PairEnds g M (marked w) 0 0 (length w)
      at-end b m x q = (b, rw q at x)

      to : Sentence (of_places g) w → PairEnds g M (marked w) 0 0 (length w)
      to s =
          let (b, r, (f, d, x)) = (whole-sentence g order.marked_end order.end-past 0 w).1 s in
          let (m, y, z) = (opens_by order c 0 b f bottom d).0 (r, x) in
          at-end b m y ((opens-bottom g order w m).0 z)

      from : PairEnds g M (marked w) 0 0 (length w) → Sentence (of_places g) w
      from (b, (f, d, x, h)) =
          let (r, y) = (opens_by order c 0 b f bottom d).1 (length w, (f, d, x, h), (opens-bottom g order w (length w)).1 refl) in
          (whole-sentence g order.marked_end order.end-past 0 w).0 (b, r, (f, d, y))

  -- the same of the test
  sentence-test : T (sentence? g w) ↔ PairEnds g M (marked w) 0 0 (length w)
  sentence-test =
      let h = sentence-iff g order.marked_end order.end-past w in
      (λ t. sentence-ends.0 (h.0 t), λ x. h.1 (sentence-ends.1 x))

  -- the start symbol was asked from 0: what is known of it tells
  pub sentence-told : (s : State) → Holds g M (marked w) s → Asked M (marked w) s.done 0 0
      → tells (known M (marked w) s 0 0) (length w) ≡ sentence? g w
  sentence-told s I asked =
      let y = tells-right (known-right order c s I 0 0 (omega arith)) asked (length w) in
      same (tells (known M (marked w) s 0 0) (length w)) (sentence? g w) (λ t. sentence-test.1 (y.0 t)) (λ t. y.1 (sentence-test.0 t))
