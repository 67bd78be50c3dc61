-- Along a production at one position, place by place as the code meets them.
use mathlib.Core.Path.{◌≡◌, sym, ◌∙◌}
use mathlib.Core.Bool.{Bool, true, false, not, ◌&&◌, ◌||◌}
use mathlib.Core.List.{List}
use Prim.Native.Nat.{ℕ, suc, ◌+◌, ◌*◌, ◌≤◌, ◌<◌}
use native.Mathlib.Numerals.{add-one}
use native.Mathlib.Omega.{arith}
use lib.Dec.{eqb}
use lib.ListN.{length}
use borrow.Author.Tests.{not-true, not-false}
use Rattle.base.proofs.Booleans.{or_assoc, or-none}
use Rattle.grammar.specs.declared.Symbol.TheVariants.{Token, Nonterminal, End}
use Rattle.grammar.specs.Grammar.{facing}
use Rattle.grammar.specs.inside.Tables.{grammar_in}
use Rattle.positions.specs.inside.Positions.{position_count, set_words, empty_set, member, with_of, union_of}
use Rattle.positions.specs.inside.Words.{set_at}
use Rattle.positions.proofs.SetLaws.{member-empty, member-with, member_union}
use Rattle.cells.specs.inside.Chart.{spot}
use Rattle.cells.specs.inside.Matches.{matches_at}
use Rattle.cells.specs.inside.Through.{through_of, Through}
use Rattle.cells.proofs.Spots.{cell-member}
use Rattle.ends.specs.inside.Ends.{end_has, lead_by}
use Rattle.ends.specs.inside.Row.{cells_in, leads_to, LedTo}
use Rattle.ends.proofs.LeadLaws.{lead-place}
use Rattle.ends.proofs.PlaceLaws.{eqb_comm, by_end, by-other, by_token, by_call, end-member, end-through}

-- ---- along a production: r is what the places from f up to p lead to
module _ (t w ws : List ℕ) (i : ℕ) (ends : List ℕ) (f : ℕ) where
  abbrev leads : ℕ → ℕ → Bool
  leads = leads_to t w ws i ends

  -- what place p leads to
  abbrev led : ℕ → ℕ → Bool
  led p j = lead_by (grammar_in t) w (end_has ends) (cells_in t ws) i j p (facing (grammar_in t) p) (leads j (suc p))

  pub Leading : ℕ → List ℕ → Type 0
  Leading p r = (j : ℕ) → j < position_count → (member r j || leads j p) ≡ leads j f

  pub leading-begins : (r : List ℕ) → r ≡ empty_set → Leading f r
  unfolding Leading
  leading-begins r e j l = rw (e, member-empty j)

  module _ (p : ℕ) (r : List ℕ) (inv : Leading p r) where
    -- the place adds x, and nothing follows
    last : (x : ℕ → Bool) → ((j : ℕ) → j < position_count → led p j ≡ x j) → (j : ℕ) → j < position_count → (member r j || x j)
        ≡ leads j f
    unfolding Leading
    last x h j l = rw (← h j l, ← lead-place (grammar_in t) w (end_has ends) (cells_in t ws) i j p) (inv j l)

    stays : ((j : ℕ) → j < position_count → led p j ≡ false)
        → LedTo t w ws i ends f r
    unfolding LedTo
    stays h j l = rw or-none at (last (λ _. false) h j l)

    pub leading_end : {r' : List ℕ} → facing (grammar_in t) p ≡ End → i < position_count → length r ≡ set_words → r' ≡ with_of r i
        → LedTo t w ws i ends f r'
    unfolding LedTo
    leading_end {r'} e k m d j l =
        rw (d, member-with r i j (omega arith), eqb_comm j i)
        (last (λ j. eqb i j) (λ j l. by_end (grammar_in t) w (end_has ends) (cells_in t ws) i j p _ e) j l)

    pub leading-other : {k : ℕ} {m : Bool} → facing (grammar_in t) p ≡ Token k → m ≡ matches_at (grammar_in t) w i k → not m ≡ true
        → LedTo t w ws i ends f r
    leading-other {k} {m} e q n = stays (λ j l. by-other (grammar_in t) w (end_has ends) (cells_in t ws) i j p _ e (sym q ∙ not-true m n))

    pub leading-token : {k P : ℕ} {m : Bool} (u : List ℕ) {r' : List ℕ} → P ≡ (grammar_in t).size → facing (grammar_in t) p ≡ Token k
        → m ≡ matches_at (grammar_in t) w i k → not m ≡ false → u ≡ set_at ws (spot P (p + 1) (i + 1)) → r' ≡ union_of r u
        → LedTo t w ws i ends f r'
    unfolding LedTo
    leading-token {k} {P} {m} u {r'} s e q n c d j l =
        rw (d, member_union r u j l, cell-member (grammar_in t).size ws (p + 1) (i + 1) j (rw s at c) l, add-one p, add-one i)
        (last (λ j. cells_in t ws (suc p) (suc i) j)
        (λ j l. by_token (grammar_in t) w (end_has ends) (cells_in t ws) i j p _ e (sym q ∙ not-false m n)) j l)

    -- a call: what its ends behind i lead to is added, and the next place is looked at if it vanishes here
    module _ {b P : ℕ} (s u : List ℕ) {r' : List ℕ} {v : Bool} (sized : P ≡ (grammar_in t).size) (e : facing (grammar_in t) p ≡ Nonterminal b)
        (here : i ≤ length w) (short : length w < position_count) (c : s ≡ set_at ends (set_words * b))
        (x : Through P ws (length w) s (i + 1) (p + 1) u) (d : r' ≡ union_of r u) (q : v ≡ member s i) where
      vanishes : end_has ends b i ≡ v
      vanishes = sym (end-member ends b c i (omega arith)) ∙ sym q

      called : (j : ℕ) → j < position_count → (member r' j || (v && leads j (suc p))) ≡ leads j f
      called j l =
          let m : member u j ≡ through_of (end_has ends b) (cells_in t ws) (suc p) j (suc i) (length w) =
          rw (add-one p, add-one i) at (end-through ends b c (grammar_in t).size ws (length w) (i + 1) (p + 1) u short (rw sized at x) j l) in
          rw (d, member_union r u j l, m, or_assoc, ← vanishes)
          (last (λ j. through_of (end_has ends b) (cells_in t ws) (suc p) j (suc i) (length w) || (end_has ends b i && leads j (suc p)))
          (λ j l. by_call (grammar_in t) w (end_has ends) (cells_in t ws) i j p _ e) j l)

      pub leading-stops : not v ≡ true → LedTo t w ws i ends f r'
      unfolding LedTo
      leading-stops n j l = rw (not-true v n, or-none) at (called j l)

      pub leading-goes : not v ≡ false → Leading (p + 1) r'
      unfolding Leading
      leading-goes n j l = rw add-one (rw (not-false v n) at (called j l))

  pub begun-members : (r : List ℕ) → LedTo t w ws i ends f r → (j : ℕ) → j < position_count → member r j ≡ leads j f
  unfolding LedTo
  begun-members r h = h
