-- What one place leads to at one position, case by case as the code meets them.
use mathlib.Core.Path.{◌≡◌, sym, ◌∙◌}
use mathlib.Core.Bool.{Bool, true, false, ◌&&◌, ◌||◌}
use mathlib.Core.List.{List}
use Prim.Native.Nat.{ℕ, suc, ◌*◌, ◌<◌}
use native.Mathlib.Omega.{arith}
use lib.Dec.{eqb}
use lib.ListN.{length}
use Rattle.base.proofs.Bits.{eqb-iff}
use Rattle.grammar.specs.declared.Symbol.TheVariants.{Token, Nonterminal, End}
use Rattle.grammar.specs.Grammar.{Grammar, facing}
use Rattle.positions.specs.inside.Positions.{position_count, set_words, member}
use Rattle.positions.specs.inside.Words.{set_at}
use Rattle.positions.proofs.WordLaws.{member-set}
use Rattle.cells.specs.inside.Chart.{cell_has}
use Rattle.cells.specs.inside.Matches.{matches_at}
use Rattle.cells.specs.inside.Through.{through_of, Through}
use Rattle.cells.proofs.ThroughLaws.{through_same}
use Rattle.ends.specs.inside.Ends.{end_has, lead_by}

pub eqb_comm : (a b : ℕ) → eqb a b ≡ eqb b a
eqb_comm a b = eqb-iff a b b a (λ e. sym e) (λ e. sym e)

module _ (g : Grammar) (w : List ℕ) (E : ℕ → ℕ → Bool) (C : ℕ → ℕ → ℕ → Bool) (i j p : ℕ) (rest : Bool) where
  abbrev led : Bool
  led = lead_by g w E C i j p (facing g p) rest

  pub by_end : facing g p ≡ End → led ≡ eqb i j
  unfolding lead_by
  by_end e = rw e

  pub by-other : {k : ℕ} → facing g p ≡ Token k → matches_at g w i k ≡ false → led ≡ false
  unfolding lead_by
  by-other e m = rw (e, m)

  pub by_token : {k : ℕ} → facing g p ≡ Token k → matches_at g w i k ≡ true → led ≡ C (suc p) (suc i) j
  unfolding lead_by
  by_token e m = rw (e, m)

  pub by_call : {b : ℕ} → facing g p ≡ Nonterminal b → led ≡ (through_of (E b) C (suc p) j (suc i) (length w) || (E b i && rest))
  unfolding lead_by
  by_call e = rw e

-- ---- the set of nonterminal b, as it is read
module _ (ends : List ℕ) (b : ℕ) {s : List ℕ} (e : s ≡ set_at ends (set_words * b)) where
  pub end-member : (m : ℕ) → m < position_count → member s m ≡ end_has ends b m
  unfolding end_has
  end-member m l = rw e (member-set ends (set_words * b) m l)

  module _ (P : ℕ) (ws : List ℕ) (n from q : ℕ) (u : List ℕ) (short : n < position_count) (h : Through P ws n s from q u) where
    pub end-through : (j : ℕ) → j < position_count → member u j ≡ through_of (end_has ends b) (cell_has P ws) q j from n
    unfolding Through
    end-through j l = h j l ∙ through_same (member s) (end_has ends b) (cell_has P ws) q j from n (λ m k. end-member m (omega arith))
