-- The loop over the notes: what stands in answers and row and what is left to come make up the whole, from the first turn to the last.
use mathlib.Core.Path.{◌≡◌, refl, sym, ap, ◌∙◌}
use mathlib.Core.List.{List, [], ◌∷◌, ◌++◌, append-nil, append_assoc}
use Prim.Native.Nat.{ℕ, suc, ◌+◌, ◌*◌, ◌-◌, ◌≤◌, ◌<◌}
use native.Mathlib.Nat.{suc-mul, zero-mul}
use native.Mathlib.Numerals.{add-one}
use native.Mathlib.Omega.{arith}
use lib.ListN.{length, get_or, set, take, drop, length-append, drop_of_length-le}
use lib.Seq.{sets, sets-eq, take_all, take_at, drop-drop, drop-cons, length-take-le}
use borrow.Rule.Slice.PartMut.{put_mid, same_len_mid, mid_len, drop_put}
use Rattle.gate.specs.Reading.{Reading, reading_number, reading_place, reading_count}
use Rattle.adaptive.specs.Quick.{Reply}
use Rattle.adaptive.specs.Calls.{Call, call, in_turn, last_words}
use Rattle.quick.specs.inside.Replied.{replied}
use Rattle.batch.specs.Batches.{answers_each, total, calls_of, answers_of, rows_of, told}
use Rattle.batch.specs.inside.Turns.{three_of, rest_of, AllRead, Underway}
use Rattle.batch.proofs.PartLaws.{total-next}

-- ---- lists in two parts
-- the beginning of a row up to the end of y, which took the place of its entries from `at` on
pub put_front : (at k : ℕ) (row y : List ℕ) → at ≤ length row → take (at + length y) (put_mid at k row y) ≡ take at row ++ y
put_front at k row y fits =
    let e : length (take at row ++ y) ≡ at + length y = rw (length-append, length-take-le at row fits) in
    rw (← append_assoc (take at row) y (drop k (drop at row))) (take_at (take at row ++ y) (drop k (drop at row)) (at + length y) e)

-- the answers with three more
module _ (answers : List ℕ) (i : ℕ) (vs : List ℕ) (fits : i + length vs ≤ length answers) where
  pub sets-front : take (i + length vs) (sets answers i vs) ≡ take i answers ++ vs
  sets-front =
      let e : length (take i answers ++ vs) ≡ i + length vs = rw (length-append, length-take-le i answers (omega arith)) in
      rw (sets-eq vs answers i fits)
      (take_at (take i answers ++ vs) (drop (i + length vs) answers) (i + length vs) e)

module _ (read : List ℕ → Call → Reply) (space part : ℕ) (tokens lengths : List ℕ) where
  abbrev rest : ℕ → ℕ → ℕ → List ℕ → List ℕ → List Reply
  rest k from at row c = rest_of read space part (drop k lengths) (drop from tokens) (drop at row) c

  -- note k is read, and then those behind it
  rest-next : (k from at : ℕ) (row c : List ℕ) → k < length lengths
      → let n = get_or lengths k 0 in
      let x = read c (call (take n (drop from tokens)) (take part (drop at row)) space) in
      rest k from at row c ≡ x ∷ rest (k + 1) (from + n) (at + part) row x.words
  unfolding calls_of in_turn
  rest-next k from at row c l =
      rw (drop-cons lengths k 0 l, drop-drop (get_or lengths k 0) from tokens, drop-drop part at row, add-one)

  -- ---- the first turn
  pub underway-first : (answers row c : List ℕ) → total lengths ≡ length tokens → length lengths * part ≡ length row
      → Underway read space part tokens lengths c (rest 0 0 0 row c) 0 0 0 answers row c
  underway-first answers row c e f =
      record { answers-so = refl; row-so = refl; words-so = refl; tokens-left = omega (arith, e); entries-left = omega (arith, f) }

  module _ {c₀ : List ℕ} {all : List Reply} {k from at : ℕ} {answers row c : List ℕ}
      (u : Underway read space part tokens lengths c₀ all k from at answers row c) where
    module _ (l : k < length lengths) where
      pub note-fits : from + get_or lengths k 0 ≤ length tokens
      note-fits = omega (arith, u.tokens-left, total-next lengths k l)

      left-many : length (drop k lengths) ≡ suc (length (drop (k + 1) lengths))
      left-many = rw (drop-cons lengths k 0 l, add-one)

      entries_next : (at + part) + length (drop (k + 1) lengths) * part ≡ length row
      entries_next =
          let e : length (drop k lengths) * part ≡ length (drop (k + 1) lengths) * part + part
          = ap (λ (n : ℕ). n * part) left-many ∙ suc-mul (length (drop (k + 1) lengths)) part in
          omega (arith, u.entries-left, e)

      pub part-fits : at + part ≤ length row
      part-fits = omega (arith, entries_next)

      -- ---- a turn
      pub underway-next : (r : Reading) (y c' : List ℕ) {n words : ℕ} → n ≡ get_or lengths k 0 → words ≡ space → length y ≡ part
          → length answers ≡ answers_each * length lengths
          → replied r y c' ≡ read c (call (take (from + n - from) (drop from tokens)) (take (at + part - at) (drop at row)) words)
          → {answers' : List ℕ} → answers' ≡ sets answers (answers_each * k) (three_of r)
          → Underway read space part tokens lengths c₀ all (k + 1) (from + n) (at + part) answers' (put_mid at (at + part - at) row y) c'
      unfolding answers_of rows_of told last_words
      underway-next r y c' {n} d same-space as_long three q told-so =
          let e : from + n - from ≡ n = omega arith in
          let f : at + part - at ≡ part = omega arith in
          let xs = rest (k + 1) (from + n) (at + part) row c' in
          let q' : replied r y c' ≡ read c (call (take n (drop from tokens)) (take part (drop at row)) space) = rw (e, f, same-space) at q in
          let q'' : replied r y c' ≡ read c (call (take (get_or lengths k 0) (drop from tokens)) (take part (drop at row)) space) = rw d at q' in
          let z : rest k from at row c ≡ replied r y c' ∷ xs
          = rest-next k from at row c l
          ∙ ap (λ (x : Reply). x ∷ rest (k + 1) (from + get_or lengths k 0) (at + part) row x.words) (sym q'')
          ∙ ap (λ (j : ℕ). replied r y c' ∷ rest (k + 1) (from + j) (at + part) row c') (sym d) in
          let p = at + part - at in
          let whole : length y ≡ p = omega arith in
          let same : rest (k + 1) (from + n) (at + part) (put_mid at p row y) c' ≡ xs
          = ap (λ (d : List ℕ). rest_of read space part (drop (k + 1) lengths) (drop (from + n) tokens) d c')
          (drop_put at (at + part) row y (omega arith) part-fits whole) in
          let front : take (at + part) (put_mid at p row y) ≡ take at row ++ y
          = rw as_long at (put_front at p row y (omega (arith, part-fits))) in
          let i : answers_each * (k + 1) ≡ answers_each * k + 3 = omega arith in
          let room : answers_each * k + 3 ≤ length answers = omega arith in
          record {
            answers-so =
                rw (same, i, told-so, sets-front answers (answers_each * k) (three_of r) room)
                (append_assoc (take (answers_each * k) answers) (three_of r) (answers_of (told xs)) ∙ rw z at u.answers-so);
            row-so = rw (same, front) (append_assoc (take at row) y (rows_of (told xs)) ∙ rw z at u.row-so);
            words-so = rw same (rw z at u.words-so);
            tokens-left = omega (arith, u.tokens-left, total-next lengths k l, d);
            entries-left = rw (same_len_mid at p row y (whole ∙ sym (mid_len at (at + part) row part-fits))) entries_next;
          }

    -- ---- behind the last turn
    pub underway-last : length lengths ≤ k → k ≤ length lengths → length answers ≡ answers_each * length lengths → AllRead c₀ all answers row c
    unfolding calls_of in_turn answers_of rows_of told last_words
    underway-last l m three =
        let d : drop k lengths ≡ [] = drop_of_length-le lengths l in
        let z : rest k from at row c ≡ [] = rw d in
        let full : length row ≤ at = let e : length (drop k lengths) * part ≡ 0 = rw d (zero-mul part) in omega (arith, u.entries-left, e) in
        record {
          answers = sym (take_all (answers_each * k) answers (omega arith)) ∙ sym (append-nil (take (answers_each * k) answers)) ∙ rw z at u.answers-so;
          row = sym (take_all at row full) ∙ sym (append-nil (take at row)) ∙ rw z at u.row-so;
          words = rw z at u.words-so;
        }

-- ---- the answers of a note, stored one by one
pub three-told : (r : Reading) (answers : List ℕ) (i : ℕ) {n p k : ℕ} → n ≡ reading_number r → p ≡ reading_place r → k ≡ reading_count r
    → set (set (set answers i n) (i + 1) p) (i + 2) k ≡ sets answers i (three_of r)
three-told r answers i e f g =
    let one : i + 1 ≡ suc i = omega arith in
    let two : i + 2 ≡ suc (suc i) = omega arith in
    rw (e, f, g, one, two)
