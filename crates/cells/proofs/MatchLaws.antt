-- A note's token that meets a kind, in facts and as the code finds it.
use mathlib.Core.Path.{◌≡◌, refl, sym, ◌∙◌, subst}
use mathlib.Core.Bool.{Bool, false, not}
use mathlib.Core.Option.{Option, none, some}
use denote.Ref.{Bor}
use Rattle.std.specs.Prelude.{Option as Optional, Some, None, MatchOption}
use Rattle.std.specs.Slice.{IsItemAt}
use mathlib.Core.List.{List, [], ◌∷◌}
use Prim.Native.Nat.{ℕ, zero, suc, ◌≤◌, ◌<◌}
use native.Mathlib.Omega.{arith}
use lib.Dec.{T}
use lib.ListN.{length, get_elem?}
use Rattle.std.proofs.lemmas.List.{get_or_default}
use borrow.Author.Tests.{not-false, ltb-true, ltb-false}
use Rattle.base.proofs.Booleans.{true→T}
use Rattle.base.proofs.Lists.{get-below}
use Rattle.grammar.specs.Grammar.{Grammar, admits}
use Rattle.derivation.proofs.FirstLaws.{get-some}
use Rattle.cells.specs.inside.Matches.{admitted, matches_at}

get_none : (l : List ℕ) (k : ℕ) → length l ≤ k → get_elem? l k ≡ none
get_none [] k h = refl
get_none (x ∷ l) zero h = absurd (omega arith)
get_none (x ∷ l) (suc k) h = get_none l k (omega arith)

module _ (g : Grammar) (w : List ℕ) (i k : ℕ) where
  -- the token that stands there
  abbrev Met : Type 0
  Met = (t : ℕ) × (get_elem? w i ≡ some t) × T (admits g k t)

  pub matches-in : {t : ℕ} → get_elem? w i ≡ some t → T (admits g k t) → T (matches_at g w i k)
  unfolding matches_at admitted
  matches-in e a = rw e a

  pub matches-out : T (matches_at g w i k) → (t : ℕ) × (get_elem? w i ≡ some t) × T (admits g k t)
  unfolding matches_at admitted
  matches-out x = go (get_elem? w i) refl x
    where
      go : (o : Option ℕ) → get_elem? w i ≡ o → T (admitted g k o) → Met
      go none e y = absurd y
      go (some t) e y = (t, e, y)

  pub matches-inside : T (matches_at g w i k) → i < length w
  matches-inside x = go (matches-out x)
    where
      go : Met → i < length w
      go (t, e, _) = get-below w i e

  -- ---- as the code finds it
  asked : (o : Optional (Bor ℕ)) {r : Bool} (P : Bor ℕ → Type 0) → ((x : Bor ℕ) → P x → r ≡ admits g k x.now)
      → IsItemAt w i o → MatchOption o (r ≡ false) P → r ≡ matches_at g w i k
  unfolding matches_at admitted
  asked None P s e n = rw (get_none w i (ltb-false i (length w) (sym e.0))) n
  asked (Some x) P s e p =
      let l = ltb-true i (length w) (sym e.0) in rw (get-some w i l, ← e.1 ∙ get_or_default w i x.now 0 l) (s x p)

  -- the position that is looked at is this one
  pub matches-asked : (o : Optional (Bor ℕ)) {r : Bool} {n : ℕ} (P : Bor ℕ → Type 0) → ((x : Bor ℕ) → P x → r ≡ admits g k x.now)
      → n ≡ i → IsItemAt w n o → MatchOption o (r ≡ false) P → r ≡ matches_at g w i k
  matches-asked o P s q e p = asked o P s (subst (λ (m : ℕ). IsItemAt w m o) q e) p

  pub matches-found : {m : Bool} → m ≡ matches_at g w i k → not m ≡ false → i < length w
  matches-found {m} e n = matches-inside (true→T (matches_at g w i k) (sym e ∙ not-false m n))
