-- A note and the same note with its end mark: the places of productions derive the same stretches of both, for productions never read the mark.
use mathlib.Core.Path.{◌≡◌, refl, sym}
use mathlib.Core.Logic.{◌⊎◌, inl, inr}
use mathlib.Core.Option.{some}
use mathlib.Core.List.{List, [], ◌∷◌}
use Prim.Native.Nat.{ℕ, suc, ◌≤◌, ◌<◌}
use native.Mathlib.Omega.{arith}
use lib.Dec.{T}
use lib.ListN.{length, get_elem?}
use Rattle.base.proofs.Booleans.{clash, same}
use Rattle.grammar.specs.declared.Symbol.TheVariants.{Token}
use Rattle.grammar.specs.Limits.{end_mark}
use Rattle.grammar.proofs.GrammarLaws.{admits-mark}
use Rattle.grammar.specs.Grammar.{facing, admits}
use Rattle.grammar.specs.inside.Tables.{grammar_in}
use Rattle.derivation.specs.Runs.{marked}
use Rattle.derivation.specs.inside.BigSteps.{Der}
use Rattle.derivation.specs.Cells.{derives?}
use Rattle.derivation.specs.inside.Ready.{Ready}
use Rattle.derivation.proofs.CellLaws.{derives-sound, derives-complete}
use Rattle.derivation.proofs.Depth.{marked-get}
use Rattle.derivation.proofs.ReachLaws.{der-alike}
use Rattle.derivation.proofs.Stretches.{Alike, get-append}
use Rattle.derivation.proofs.ReadyLaws.{ready-first, ready-next, ready-kind}

pub length_marked : (w : List ℕ) → length (marked w) ≡ suc (length w)
length_marked [] = refl
length_marked (x ∷ w) = let h = length_marked w in omega arith

pub get-mark : (w : List ℕ) → get_elem? (marked w) (length w) ≡ some end_mark
get-mark [] = refl
get-mark (x ∷ w) = get-mark w

pub get-note : (w : List ℕ) (i : ℕ) → i < length w → get_elem? (marked w) i ≡ get_elem? w i
get-note w i l = get-append w (end_mark ∷ []) i l

module _ (t : List ℕ) (h : Ready t) (w : List ℕ) where
  -- a token that a production reads stands in the note
  pub token-inside : (p k i : ℕ) {u : ℕ} → p < (grammar_in t).size → facing (grammar_in t) p ≡ Token k → get_elem? (marked w) i ≡ some u
      → T (admits (grammar_in t) k u)
      → i < length w
  token-inside p k i {u} l e d a = go (marked-get w i u d)
    where
      go : (i < length w) ⊎ (u ≡ end_mark) → i < length w
      go (inl m) = m
      go (inr q) = let z = admits-mark (grammar_in t) k (rw q at a) in absurd (omega (arith, ready-kind t h p k l e))

  der-inside : {p i j : ℕ} {r : List ℕ} → p < (grammar_in t).size → i ≤ length w → Der (grammar_in t) (marked w) p i j r → j ≤ length w
  der-inside l m (Der.finish e k) = m
  der-inside l m (Der.match {p = p} {k = k} {i = i} e d a x) =
      der-inside (ready-next t h p l (λ q. clash (cc))) (token-inside p k i l e d a) x
  der-inside l m (Der.expand {p = p} {a = a} {b = b} {f = f} e d x y) =
      der-inside (ready-next t h p l (λ q. clash (cc))) (der-inside (ready-first t h a b f d) m x) y

  -- productions end within the note
  pub derives-inside : (p i j : ℕ) → p < (grammar_in t).size → i ≤ length w → T (derives? (grammar_in t) (marked w) p i j) → j ≤ length w
  derives-inside p i j l m x = der-inside l m (derives-sound (grammar_in t) (marked w) x).1

  alike : Alike w (marked w) (length w)
  alike i l = sym (get-note w i l)

  -- and derive the same with the mark as without
  pub derives-marked : (p i j : ℕ) → j ≤ length w → derives? (grammar_in t) w p i j ≡ derives? (grammar_in t) (marked w) p i j
  derives-marked p i j l =
      same (derives? (grammar_in t) w p i j) (derives? (grammar_in t) (marked w) p i j)
      (λ x. derives-complete (grammar_in t) (marked w) (der-alike (derives-sound (grammar_in t) w x).1 (length w) l alike))
      (λ x. derives-complete (grammar_in t) w (der-alike (derives-sound (grammar_in t) (marked w) x).1 (length w) l (λ i k. get-note w i k)))
