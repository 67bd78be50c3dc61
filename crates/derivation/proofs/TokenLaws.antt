-- The token at a position of a marked note.
use mathlib.Core.Path.{◌≡◌, sym, ap, ◌∙◌}
use mathlib.Core.Option.{some}
use mathlib.Core.List.{List}
use Prim.Native.Nat.{ℕ, ◌≤◌, ◌<◌}
use native.Mathlib.Omega.{arith}
use denote.Ref.{Bor}
use lib.ListN.{length, get_or, get_elem?}
use borrow.Author.Tests.{ltb-true, ltb-false}
use Rattle.std.specs.Prelude.{Option, Some, None, MatchOption}
use Rattle.std.specs.Slice.{IsItemAt}
use Rattle.std.proofs.lemmas.List.{get_or_default}
use Rattle.derivation.specs.Runs.{marked}
use Rattle.derivation.proofs.MarkedCells.{get-mark, get-note}
use Rattle.derivation.proofs.FirstLaws.{get-some}

pub token-mark : (w : List ℕ) (i : ℕ) → i ≡ length w → get_elem? (marked w) i ≡ some 0
token-mark w i e = rw e (get-mark w)

pub token-note : (w : List ℕ) (i : ℕ) {r : ℕ} → i < length w → r ≡ get_or w i 0 → get_elem? (marked w) i ≡ some r
token-note w i l e = get-note w i l ∙ (get-some w i l ∙ ap some (sym e))

-- the same as the code asks for it, which takes the end mark where there is no token
pub token-asked : (w : List ℕ) (i : ℕ) → i ≤ length w → (o : Option (Bor ℕ)) {r : ℕ} (P : Bor ℕ → Type 0) → ((x : Bor ℕ) → P x → r ≡ x.now)
    → IsItemAt w i o → MatchOption o (r ≡ 0) P → get_elem? (marked w) i ≡ some r
token-asked w i h None P s e n = rw n (token-mark w i (omega (arith, ltb-false i (length w) (sym e.0))))
token-asked w i h (Some x) P s e p =
    let l = ltb-true i (length w) (sym e.0) in token-note w i l (s x p ∙ (e.1 ∙ get_or_default w i x.now 0 l))
