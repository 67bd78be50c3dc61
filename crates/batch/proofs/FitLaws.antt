-- WHAT FITS TOGETHER: the test of 18 says exactly that, and the part is the only one.
use mathlib.Core.Path.{◌≡◌, sym}
use mathlib.Core.Bool.{true, false, ◌&&◌}
use mathlib.Core.List.{List}
use mathlib.Core.Logic.{◌↔◌}
use Prim.Native.Nat.{ℕ, ◌*◌, ◌/◌, ◌%◌}
use native.Mathlib.Nat.{div-add-mod, mul-div_cancel_left, mul-mod_right}
use native.Mathlib.Omega.{arith}
use lib.Dec.{T, eqb, leb, leb→le, eqb→eq}
use lib.ListN.{length}
use borrow.Author.Tests.{eq-eqb, le-leb}
use Rattle.base.proofs.Booleans.{and_T, true→T, false→¬T, ¬T→false}
use Rattle.batch.specs.Batches.{max_notes, answers_each, total, Fits, fits?}

module _ (tokens lengths answers row : List ℕ) where
  -- what passes the test fits, with an equal part of the row for each note
  pub fits-means : T (fits? tokens lengths answers row) → Fits tokens lengths answers row (length row / length lengths)
  unfolding fits?
  fits-means t =
      let n = length lengths in
      let few? = leb 1 n && leb n max_notes in
      let adds? = few? && eqb (total lengths) (length tokens) in
      let (rest, e) = and_T (adds? && eqb (length answers) (answers_each * n)) (eqb (length row % n) 0) t in
      let (more, d) = and_T adds? (eqb (length answers) (answers_each * n)) rest in
      let (less, c) = and_T few? (eqb (total lengths) (length tokens)) more in
      let (a, b) = and_T (leb 1 n) (leb n max_notes) less in
      record {
        some = leb→le 1 n a;
        few = leb→le n max_notes b;
        adds-up = eqb→eq (total lengths) (length tokens) c;
        three = eqb→eq (length answers) (answers_each * n) d;
        even = omega (arith, div-add-mod (length row) n, eqb→eq (length row % n) 0 e);
      }

  module _ (part : ℕ) (f : Fits tokens lengths answers row part) where
    -- a part that fits is that one, since there is a note
    pub part-is : part ≡ length row / length lengths
    part-is = rw f.even (sym (mul-div_cancel_left part f.some))

    -- and what fits passes the test
    pub fits-pass : fits? tokens lengths answers row ≡ true
    unfolding fits?
    fits-pass =
        let n = length lengths in
        let e : length row % n ≡ 0 = rw f.even (mul-mod_right n part) in
        rw (
          le-leb 1 n f.some,
          le-leb n max_notes f.few,
          eq-eqb (total lengths) (length tokens) f.adds-up,
          eq-eqb (length answers) (answers_each * n) f.three,
          eq-eqb (length row % n) 0 e,
        )

  -- the test is passed exactly if some part fits
  pub fits_iff : T (fits? tokens lengths answers row) ↔ ((part : ℕ) × Fits tokens lengths answers row part)
  fits_iff = ((λ t. (length row / length lengths, fits-means t)), (λ x. true→T (fits? tokens lengths answers row) (fits-pass x.0 x.1)))

  -- where it is not passed, none does
  pub fits-fails : fits? tokens lengths answers row ≡ false → (part : ℕ) → ¬ Fits tokens lengths answers row part
  fits-fails e part f = false→¬T (fits? tokens lengths answers row) e (fits_iff.1 (part, f))

  -- and where none does, it is not passed
  pub none-fits : ((part : ℕ) → ¬ Fits tokens lengths answers row part) → fits? tokens lengths answers row ≡ false
  none-fits h = ¬T→false (fits? tokens lengths answers row) (λ t. let (part, f) = fits_iff.0 t in h part f)
