-- The loop over the productions of a nonterminal: the union of a set for each of them.
use mathlib.Core.Path.{◌≡◌, ap, ◌∙◌}
use mathlib.Core.Bool.{Bool, ◌||◌}
use mathlib.Core.List.{List}
use Prim.Native.Nat.{ℕ, ◌+◌, ◌≤◌, ◌<◌}
use native.Mathlib.Numerals.{add-one}
use lib.ListN.{length, get_or, drop, drop_of_length-le}
use lib.Seq.{drop-cons}
use Rattle.base.specs.Rounds.{any_of}
use Rattle.base.proofs.Booleans.{or_assoc, or-none}
use Rattle.grammar.specs.Grammar.{alternatives}
use Rattle.grammar.specs.inside.Tables.{grammar_in}
use Rattle.positions.specs.inside.Positions.{position_count, empty_set, member, union_of}
use Rattle.positions.proofs.SetLaws.{member-empty, member_union}
use Rattle.cells.specs.inside.Chart.{cell_has, EndsOf}

-- ---- X says for each production, by its first place, which positions are members
module _ (X : ℕ → ℕ → Bool) where
  -- r is the union for the productions of fs, but for those that are left
  pub Gathering : List ℕ → List ℕ → List ℕ → Type 0
  Gathering fs left r = (j : ℕ) → j < position_count → (member r j || any_of (λ f. X f j) left) ≡ any_of (λ f. X f j) fs

  pub gather-begins : (fs : List ℕ) {r : List ℕ} → r ≡ empty_set → Gathering fs fs r
  unfolding Gathering
  gather-begins fs d j l = rw (d, member-empty j)

  pub gather-more : (fs : List ℕ) (k : ℕ) {f : ℕ} (r u : List ℕ) {r' : List ℕ} → Gathering fs (drop k fs) r → k < length fs → f ≡ get_or fs k 0
      → ((j : ℕ) → j < position_count → member u j ≡ X f j)
      → r' ≡ union_of r u → Gathering fs (drop (k + 1) fs) r'
  unfolding Gathering any_of
  gather-more fs k {f} r u {r'} inv h d x z j l =
      let c : member r' j ≡ (member r j || X f j) = rw (z, member_union r u j l, x j l) in
      rw (c, or_assoc, add-one, d) (rw (drop-cons fs k 0 h) at (inv j l))

  pub gather-ends : (fs : List ℕ) {all : List ℕ} → fs ≡ all → (k : ℕ) (r : List ℕ) → Gathering fs (drop k fs) r → length fs ≤ k → (j : ℕ)
      → j < position_count → member r j ≡ any_of (λ f. X f j) all
  unfolding Gathering any_of
  gather-ends fs {all} e k r inv h j l = (rw (drop_of_length-le fs {i = k} h, or-none) at (inv j l)) ∙ ap (any_of (λ f. X f j)) e

-- the cells of the first places
pub gather-cells : (t ws : List ℕ) (a i k : ℕ) {fs : List ℕ} (r : List ℕ) → fs ≡ alternatives (grammar_in t) a
    → Gathering (λ f j. cell_has (grammar_in t).size ws f i j) fs (drop k fs) r → length fs ≤ k → EndsOf t ws a i r
unfolding EndsOf
gather-cells t ws a i k {fs} r e inv h j l = gather-ends (λ f j. cell_has (grammar_in t).size ws f i j) fs e k r inv h j l
