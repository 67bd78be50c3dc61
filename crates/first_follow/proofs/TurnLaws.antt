-- The turns of the pass as the code takes them: one law for each way back to the loop's head.
use mathlib.Core.Path.{◌≡◌, sym, ◌∙◌}
use mathlib.Core.Bool.{Bool, true, false}
use mathlib.Core.List.{List}
use Prim.Native.Nat.{ℕ, suc, ◌+◌, ◌≤◌, ◌<◌}
use native.Mathlib.Omega.{arith}
use Rattle.base.specs.Bits.{test_bit, set_bit}
use Rattle.base.proofs.Booleans.{true→T, false→¬T}
use Rattle.grammar.specs.declared.Symbol.TheVariants.{Token, Nonterminal, End}
use Rattle.grammar.specs.declared.Place.{Place}
use Rattle.grammar.specs.Limits.{max_kinds, max_nonterminals}
use Rattle.grammar.specs.Grammar.{Grammar, place_at}
use Rattle.grammar.specs.inside.Tables.{grammar_in}
use Rattle.grammar.proofs.WordLaws.{facing-of, owner_of}
use Rattle.closures.specs.Closures.{nullable?}
use Rattle.closures.specs.inside.Steps.{DerivingIs}
use Rattle.derivation.specs.inside.Ready.{Ready}
use Rattle.first_follow.specs.inside.Steps.{Relations, Gathered, added_of, member_of, token_of}
use Rattle.first_follow.proofs.LinedLaws.{ready-lined}
use Rattle.first_follow.proofs.PassLaws.{Passing, pass-begin, pass-end, pass-token, pass-over, pass-stop}

module _ (t : List ℕ) (ready : Ready t) where
  pub turn-begin : (R : Relations) → Gathered (grammar_in t) 0 R → Passing (grammar_in t) 0 true 0 R
  turn-begin R h = pass-begin (ready-lined t ready) R h

  -- a nonterminal that a place faces has its row
  pub turn-named : (p b : ℕ) {x : Place} → x ≡ place_at (grammar_in t) p → x.symbol ≡ Nonterminal b → b < max_nonterminals
  turn-named p b e d = let h = ready.fits.named p b (facing-of (grammar_in t) p e d) in omega (arith, ready.fits.few)

  module _ (p : ℕ) (l : p < (grammar_in t).size) {x : Place} (e : x ≡ place_at (grammar_in t) p) where
    pub turn-owned : x.owner < max_nonterminals
    turn-owned = rw (owner_of (grammar_in t) p e) ((ready-lined t ready).owned p l)

    pub turn-kind : (k : ℕ) → x.symbol ≡ Token k → k ≤ max_kinds
    turn-kind k d =
        let h = (ready-lined t ready).kind p k l (facing-of (grammar_in t) p e d) in
        let m = (ready-lined t ready).few-kinds in omega arith

    module _ (lead : Bool) (ahead : ℕ) (R : Relations) (h : Passing (grammar_in t) p lead ahead R) where
      pub turn_end : x.symbol ≡ End → {last : List ℕ} → last ≡ added_of x.owner ahead R.last
          → Passing (grammar_in t) (p + 1) true 0 (record { masks = R.masks; above = R.above; before = R.before; last = last })
      turn_end d w =
          let z : p + 1 ≡ suc p = omega arith in
          rw (z, w, owner_of (grammar_in t) p e) (pass-end (ready-lined t ready) p lead ahead R h l (facing-of (grammar_in t) p e d))

      pub turn-token : (k : ℕ) → x.symbol ≡ Token k → {masks : List ℕ} → masks ≡ token_of k x.owner lead ahead R.masks
          → Passing (grammar_in t) (p + 1) false 0 (record { masks = masks; above = R.above; before = R.before; last = R.last })
      turn-token k d w =
          let z : p + 1 ≡ suc p = omega arith in
          rw (z, w, owner_of (grammar_in t) p e) (pass-token (ready-lined t ready) p lead ahead R h l k (facing-of (grammar_in t) p e d) (turn-kind k d))

      module _ (nullable : ℕ) (n : DerivingIs false (grammar_in t) nullable) (b : ℕ) (d : x.symbol ≡ Nonterminal b) {above before : List ℕ}
          (f : (above ≡ member_of b x.owner lead R.above) × (before ≡ added_of b ahead R.before)) {found : Bool} (s : found ≡ test_bit nullable b) where
        is-nullable : found ≡ nullable? (grammar_in t) b
        unfolding DerivingIs
        is-nullable = s ∙ n b

        pub turn-over : found ≡ true → {w : ℕ} → w ≡ set_bit ahead b
            → Passing (grammar_in t) (p + 1) lead w (record { masks = R.masks; above = above; before = before; last = R.last })
        turn-over c q =
            let z : p + 1 ≡ suc p = omega arith in
            rw (z, q, f.0, f.1, owner_of (grammar_in t) p e)
            (pass-over (ready-lined t ready) p lead ahead R h l b (facing-of (grammar_in t) p e d) (true→T (nullable? (grammar_in t) b) (sym is-nullable ∙ c)))

        pub turn-stop : found ≡ false → {w : ℕ} → w ≡ set_bit 0 b
            → Passing (grammar_in t) (p + 1) false w (record { masks = R.masks; above = above; before = before; last = R.last })
        turn-stop c q =
            let z : p + 1 ≡ suc p = omega arith in
            rw (z, q, f.0, f.1, owner_of (grammar_in t) p e)
            (pass-stop (ready-lined t ready) p lead ahead R h l b (facing-of (grammar_in t) p e d)
            (false→¬T (nullable? (grammar_in t) b) (sym is-nullable ∙ c)))

-- the pass is over
pub turn-done : (g : Grammar) (p : ℕ) {lead : Bool} {ahead : ℕ} (size : ℕ) (R : Relations) → Passing g p lead ahead R → p ≡ size → Gathered g size R
turn-done g p size R h e = rw e at h.gathered
