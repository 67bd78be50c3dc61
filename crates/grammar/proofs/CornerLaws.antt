-- The rows of left corners stand behind all that tables say of a grammar: putting one there changes no other row and nothing of the grammar.
use mathlib.Core.Path.{◌≡◌, refl, sym, ap, ◌∙◌}
use mathlib.Core.List.{List, ◌∷◌, map}
use Prim.Native.Nat.{ℕ, zero, suc, ◌+◌, ◌*◌, ◌/◌, ◌%◌, ◌≤◌, ◌<◌}
use native.Mathlib.Omega.{arith}
use lib.ListN.{get_or, set, drop, length-set}
use lib.Seq.{slice, get_or-set_same, get_or-set_other, take-set-le}
use Rattle.base.specs.Rounds.{up_from}
use Rattle.grammar.specs.Limits.{max_nonterminals}
use Rattle.grammar.specs.Grammar.{Grammar, facing, owner}
use Rattle.grammar.specs.inside.Tables.{place_words, rules_at, kinds_at, nonterminals_at, size_at, corners_at, half, corner_at, place_of, rule_at, starts_in}
use Rattle.grammar.specs.inside.Tables.{grammar_in, nonterminals_in, corner_row, with_corners, TablesFit, SameTables}

-- ---- a word behind the grammar is written
module _ (t : List ℕ) (i v : ℕ) (behind : corners_at ≤ i) (fits : TablesFit t) where
  abbrev after : List ℕ
  after = set t i v

  word_kept : (j : ℕ) → j < corners_at → get_or after j 0 ≡ get_or t j 0
  word_kept j h = get_or-set_other t i j v 0 (λ e. absurd (omega arith))

  rule-kept : (a : ℕ) → a ≤ max_nonterminals → rule_at after a ≡ rule_at t a
  unfolding rule_at
  rule-kept a h = let e = word_kept (rules_at + a) (omega arith) in omega arith

  starts-kept : (b n : ℕ) → b + n ≤ nonterminals_in t → starts_in after (up_from b n) ≡ starts_in t (up_from b n)
  unfolding starts_in up_from
  starts-kept b zero h = refl
  starts-kept b (suc n) h =
      let few : suc b ≤ max_nonterminals = omega (arith, fits.few) in
      let first : slice (rule_at t b) (rule_at t (suc b)) after ≡ slice (rule_at t b) (rule_at t (suc b)) t
      = ap (drop (rule_at t b)) (take-set-le (rule_at t (suc b)) t i v (omega (arith, fits.within b (omega arith)))) in
      rw (rule-kept b (omega arith), rule-kept (suc b) few, first)
      (ap (λ (l : List (List ℕ)). slice (rule_at t b) (rule_at t (suc b)) t ∷ l) (starts-kept (suc b) n (omega arith)))

  number-kept : nonterminals_in after ≡ nonterminals_in t
  number-kept = word_kept nonterminals_at (omega arith)

  grammar-kept : grammar_in after ≡ grammar_in t
  unfolding grammar_in
  grammar-kept =
      let K = word_kept kinds_at (omega arith) in
      let Z = word_kept size_at (omega arith) in
      let S : starts_in after (up_from 0 (nonterminals_in after)) ≡ starts_in t (up_from 0 (nonterminals_in t))
      = ap (λ (n : ℕ). starts_in after (up_from 0 n)) number-kept ∙ starts-kept 0 (nonterminals_in t) (omega arith) in
      let P = ap (map place_of) (take-set-le place_words t i v (omega arith)) in
      λ k. record { kinds = K k; size = Z k; starts = S k; places = P k }

  fits_kept : TablesFit after
  fits_kept =
      record {
        long = length-set t i v ∙ fits.long;
        few = omega (arith, number-kept, fits.few);
        within = λ a h. rw (rule-kept (suc a) (omega (arith, number-kept, fits.few))) (fits.within a (omega (arith, number-kept)));
        named = λ p a e. rw number-kept (fits.named p a (ap (λ (g : Grammar). facing g p) (sym grammar-kept) ∙ e));
        begins = rule-kept 0 (omega arith) ∙ fits.begins;
        ordered = λ a h.
            rw (rule-kept a (omega (arith, number-kept, fits.few)), rule-kept (suc a) (omega (arith, number-kept, fits.few)))
            (fits.ordered a (omega (arith, number-kept)));
        owns = owns;
      }
    where
      owns : (a k : ℕ) → a < nonterminals_in after → rule_at after a ≤ k → k < rule_at after (suc a) → owner (grammar_in after) (get_or after k 0) ≡ a
      owns a k h l m =
          let n : a < nonterminals_in t = omega (arith, number-kept) in
          let begin = rule-kept a (omega (arith, number-kept, fits.few)) in
          let end = rule-kept (suc a) (omega (arith, number-kept, fits.few)) in
          let word = word_kept k (omega (arith, end, fits.within a n)) in
          rw (grammar-kept, word) (fits.owns a k n (omega (arith, begin)) (omega (arith, end)))

-- ---- so is a row, in two words
module _ (t : List ℕ) (a row : ℕ) (fits : TablesFit t) (named : a < max_nonterminals) where
  abbrev low : List ℕ
  low = set t (corner_at a) (row % half)

  low_fits : TablesFit low
  low_fits = fits_kept t (corner_at a) (row % half) (omega arith) fits

  pub put-kept : SameTables t (with_corners t a row)
  unfolding with_corners
  put-kept =
      record {
        says = grammar-kept low (suc (corner_at a)) (row / half) (omega arith) low_fits ∙ grammar-kept t (corner_at a) (row % half) (omega arith) fits;
        number = number-kept low (suc (corner_at a)) (row / half) (omega arith) low_fits ∙ number-kept t (corner_at a) (row % half) (omega arith) fits;
        fits = fits_kept low (suc (corner_at a)) (row / half) (omega arith) low_fits;
      }

  pub put-here : corner_row (with_corners t a row) a ≡ row
  unfolding corner_row with_corners
  put-here =
      let l : get_or (set low (suc (corner_at a)) (row / half)) (corner_at a) 0 ≡ row % half
      = get_or-set_other low (suc (corner_at a)) (corner_at a) (row / half) 0 (λ e. absurd (omega arith))
      ∙ get_or-set_same t (corner_at a) (row % half) 0 (omega (arith, fits.long)) in
      let h : get_or (set low (suc (corner_at a)) (row / half)) (suc (corner_at a)) 0 ≡ row / half
      = get_or-set_same low (suc (corner_at a)) (row / half) 0 (omega (arith, low_fits.long)) in
      rw (l, h) (omega arith)

  word-other : (j : ℕ) → (j ≡ corner_at a → ⊥) → (j ≡ suc (corner_at a) → ⊥) → get_or (set low (suc (corner_at a)) (row / half)) j 0
      ≡ get_or t j 0
  word-other j n m =
      get_or-set_other low (suc (corner_at a)) j (row / half) 0 m ∙ get_or-set_other t (corner_at a) j (row % half) 0 n

  pub put_other : (b : ℕ) → (b ≡ a → ⊥) → corner_row (with_corners t a row) b ≡ corner_row t b
  unfolding corner_row with_corners
  put_other b n =
      rw (
        word-other (corner_at b) (λ e. n (omega arith)) (λ e. absurd (omega arith)),
        word-other (suc (corner_at b)) (λ e. absurd (omega arith)) (λ e. n (omega arith)),
      )

-- tables are kept in two steps, or in none
pub kept-none : {t : List ℕ} → TablesFit t → SameTables t t
kept-none f = record { says = refl; number = refl; fits = f }

pub kept_on : {t₀ t t' : List ℕ} → SameTables t₀ t → SameTables t t' → SameTables t₀ t'
kept_on k m = record { says = m.says ∙ k.says; number = m.number ∙ k.number; fits = m.fits }

-- ---- as the code has it
pub row_read : (t : List ℕ) (a low high : ℕ) {r : ℕ} → low ≡ get_or t (corners_at + 2 * a) 0 → high ≡ get_or t (corners_at + 2 * a + 1) 0 → r
    ≡ low + high * half
    → r ≡ corner_row t a
unfolding corner_row
row_read t a low high l h e = let z : corners_at + 2 * a + 1 ≡ suc (corner_at a) = omega arith in e ∙ rw (l, h, z)

pub row_put : (t : List ℕ) (a row low high : ℕ) → low ≡ row % half → high ≡ row / half
    → set (set t (corners_at + 2 * a) low) (corners_at + 2 * a + 1) high ≡ with_corners t a row
unfolding with_corners
row_put t a row low high l h = let z : corners_at + 2 * a + 1 ≡ suc (corner_at a) = omega arith in rw (l, h, z)
