-- The test whether a note is a sentence.
use mathlib.Core.Path.{◌≡◌}
use mathlib.Core.Logic.{◌↔◌}
use mathlib.Core.List.{List, [], ◌∷◌}
use Prim.Native.Nat.{ℕ, suc}
use lib.Dec.{T}
use Rattle.base.proofs.Lists.{any_of-T, T-any_of}
use Rattle.grammar.specs.Limits.{end_place, end_mark}
use Rattle.grammar.specs.declared.Symbol.TheVariants.{Token, End}
use Rattle.grammar.specs.Grammar.{Grammar, facing, alternatives, of_places}
use Rattle.grammar.proofs.GrammarLaws.{first_pos}
use Rattle.derivation.specs.Runs.{marked}
use Rattle.derivation.specs.Cells.{runs?}
use Rattle.derivation.specs.Viable.{Sentence}
use Rattle.derivation.specs.Plain.{sentence?}
use Rattle.derivation.proofs.CellLaws.{runs-iff}
use Rattle.derivation.proofs.WholeNotes.{whole-sentence}

pub sentence-iff : (g : Grammar) → facing g end_place ≡ Token end_mark → facing g (suc end_place) ≡ End → (w : List ℕ)
    → T (sentence? g w) ↔ Sentence (of_places g) w
unfolding sentence?
sentence-iff g ends last w = (to, from)
  where
    to : T (sentence? g w) → Sentence (of_places g) w
    to t =
        let (n, f, e, s) = any_of-T (λ f. runs? g (marked w) (f ∷ end_place ∷ []) 0) (alternatives g 0) t in
        let (r, x) = (runs-iff g (marked w) (f ∷ end_place ∷ []) 0).0 s in
        (whole-sentence g ends last 0 w).0 (suc n, r, (f, e, x))

    from : Sentence (of_places g) w → T (sentence? g w)
    from h =
        let (b, r, (f, e, x)) = (whole-sentence g ends last 0 w).1 h in
        let (n, d) = first_pos g 0 b f e in
        T-any_of (λ f. runs? g (marked w) (f ∷ end_place ∷ []) 0) (alternatives g 0) n d ((runs-iff g (marked w) (f ∷ end_place ∷ []) 0).1 (r, x))
