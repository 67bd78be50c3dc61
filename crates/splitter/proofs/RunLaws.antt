-- Runs of letters and digits and of digits, byte by byte, and where a number ends.
use mathlib.Core.Path.{◌≡◌, refl, sym, ap, ◌∙◌}
use mathlib.Core.Bool.{Bool, true, false}
use mathlib.Core.List.{List, [], ◌∷◌}
use Prim.Native.Nat.{ℕ, suc, ◌+◌, ◌*◌, ◌%◌, ◌≤◌, ◌<◌}
use native.Mathlib.Nat.{mod-lt}
use native.Mathlib.Numerals.{add-one}
use native.Mathlib.Omega.{arith}
use lib.ListN.{length, get_or, take, drop, length-append, drop_of_length-le}
use lib.Seq.{drop-cons, drop-drop}
use lib.Dec.{eqb}
use borrow.Author.Tests.{lt-leb, le-leb, eq-eqb, ne_eqb}
use Rattle.base.proofs.Booleans.{and_none}
use Rattle.splitter.specs.Classes.{class_of, digit_class, word_byte?, digit?}
use Rattle.splitter.specs.Listing.{prefix, word_run}
use Rattle.splitter.specs.Items.{point, digit_run, pointed?, fraction, number_bytes}
use Rattle.splitter.specs.inside.Index.{buckets, mix, bucket_from, run_from, run_of}
use Rattle.splitter.specs.declared.runs.Run.{Run}

abbrev pub run : ℕ → ℕ → Run
run i h = record { end = i; bucket = h }

-- ---- the longest beginning that passes a test
pub prefix-on : (p : ℕ → Bool) (b : ℕ) (s : List ℕ) → p b ≡ true → prefix p (b ∷ s) ≡ b ∷ prefix p s
unfolding prefix
prefix-on p b s e = rw (e, prefix)

pub prefix-stop : (p : ℕ → Bool) (b : ℕ) (s : List ℕ) → p b ≡ false → prefix p (b ∷ s) ≡ []
unfolding prefix
prefix-stop p b s e = rw (e, prefix)

-- it is a beginning
take_step : (p : ℕ → Bool) (b : ℕ) (s : List ℕ) (x : Bool) → p b ≡ x → take (length (prefix p s)) s ≡ prefix p s
    → take (length (prefix p (b ∷ s))) (b ∷ s) ≡ prefix p (b ∷ s)
take_step p b s true e r = rw (prefix-on p b s e) (ap (λ (t : List ℕ). b ∷ t) r)
take_step p b s false e r = rw (prefix-stop p b s e)

pub prefix-take : (p : ℕ → Bool) (s : List ℕ) → take (length (prefix p s)) s ≡ prefix p s
unfolding prefix
prefix-take p [] = refl
prefix-take p (b ∷ s) = take_step p b s (p b) refl (prefix-take p s)

le_step : (p : ℕ → Bool) (b : ℕ) (s : List ℕ) (x : Bool) → p b ≡ x → length (prefix p s) ≤ length s → length (prefix p (b ∷ s)) ≤ suc (length s)
le_step p b s true e r = rw (prefix-on p b s e) (omega arith)
le_step p b s false e r = rw (prefix-stop p b s e) (omega arith)

pub prefix-le : (p : ℕ → Bool) (s : List ℕ) → length (prefix p s) ≤ length s
unfolding prefix
prefix-le p [] = omega arith
prefix-le p (b ∷ s) = le_step p b s (p b) refl (prefix-le p s)

-- ---- runs of letters and digits
pub mix-lt : (h b : ℕ) → mix h b < buckets
unfolding mix
mix-lt h b = mod-lt (5 * h + b) (omega arith)

pub bucket-lt : (h : ℕ) (u : List ℕ) → h < buckets → bucket_from h u < buckets
unfolding bucket_from
bucket-lt h [] l = l
bucket-lt h (b ∷ u) l = bucket-lt (mix h b) u (mix-lt h b)

run_step : (i h b : ℕ) (s : List ℕ) (x : Bool) → word_byte? b ≡ x
    → run_from (suc i) (mix h b) s ≡ run (suc i + length (word_run s)) (bucket_from (mix h b) (word_run s))
    → run_from i h (b ∷ s) ≡ run (i + length (word_run (b ∷ s))) (bucket_from h (word_run (b ∷ s)))
unfolding run_from word_run bucket_from
run_step i h b s true e r =
    let z : suc i + length (prefix word_byte? s) ≡ i + suc (length (prefix word_byte? s)) = omega arith in
    rw (e, run_from, prefix-on word_byte? b s e) (r ∙ ap (λ (k : ℕ). run k (bucket_from (mix h b) (prefix word_byte? s))) z)
run_step i h b s false e r =
    let z : i ≡ i + 0 = omega arith in
    rw (e, run_from, prefix-stop word_byte? b s e) (ap (λ (k : ℕ). run k h) z)

-- the end and the bucket are those of the run
pub run-from : (i h : ℕ) (s : List ℕ) → run_from i h s ≡ run (i + length (word_run s)) (bucket_from h (word_run s))
unfolding run_from word_run bucket_from prefix
run-from i h [] = let z : i ≡ i + 0 = omega arith in ap (λ (k : ℕ). run k h) z
run-from i h (b ∷ s) = run_step i h b s (word_byte? b) refl (run-from (suc i) (mix h b) s)

pub run_is : (s : List ℕ) (i : ℕ) → run_of s i ≡ run (i + length (word_run (drop i s))) (bucket_from 0 (word_run (drop i s)))
unfolding run_of
run_is s i = run-from i 0 (drop i s)

pub run-begins : (s : List ℕ) (i : ℕ) → run_from i 0 (drop i s) ≡ run_of s i
unfolding run_of
run-begins s i = refl

-- a run that ends at i so far, with byte k of the row s the next
module _ (s : List ℕ) (k i h : ℕ) {x : Run} (e : run_from i h (drop k s) ≡ x) where
  pub run_end : length s ≤ k → run i h ≡ x
  unfolding run_from
  run_end l = rw (drop_of_length-le s l) at e

  module _ (l : k < length s) {b : ℕ} (q : b ≡ get_or s k 0) where
    opened : run_from i h (b ∷ drop (suc k) s) ≡ x
    opened = let z : drop k s ≡ b ∷ drop (suc k) s = rw q (drop-cons s k 0 l) in rw z at e

    pub run-stop : {c : ℕ} → c ≡ class_of b → c < digit_class → run i h ≡ x
    unfolding run_from word_byte?
    run-stop {c} j m = rw (lt-leb digit_class (class_of b) (omega arith), run_from) at opened

    pub run_on : {c w h' : ℕ} → c ≡ class_of b → digit_class ≤ c → w ≡ b → h' ≡ (5 * h + w) % buckets → run_from (i + 1) h' (drop (k + 1) s) ≡ x
    unfolding run_from word_byte? mix
    run_on {c} {w} {h'} j m n a =
        let z : run_from (suc i) (mix h b) (drop (suc k) s) ≡ x = rw (le-leb digit_class (class_of b) (omega arith), run_from) at opened in
        rw (add-one i, add-one k, a, n) z

-- ---- runs of digits
module _ (s : List ℕ) (i : ℕ) {x : ℕ} (e : i + length (digit_run (drop i s)) ≡ x) where
  pub digits-end : length s ≤ i → i ≡ x
  unfolding digit_run prefix
  digits-end l = let z : i + 0 ≡ x = rw (drop_of_length-le s l) at e in omega arith

  module _ (l : i < length s) {b c : ℕ} (q : b ≡ get_or s i 0) (k : c ≡ class_of b) where
    digits-opened : i + length (prefix digit? (b ∷ drop (suc i) s)) ≡ x
    unfolding digit_run
    digits-opened = let z : drop i s ≡ b ∷ drop (suc i) s = rw q (drop-cons s i 0 l) in rw z at e

    pub digits-stop : (c ≡ digit_class → ⊥) → i ≡ x
    unfolding digit?
    digits-stop m =
        let y : digit? b ≡ false = ne_eqb (class_of b) digit_class (λ u. m (k ∙ u)) in
        let z : i + 0 ≡ x = rw (prefix-stop digit? b (drop (suc i) s) y) at digits-opened in
        omega arith

    pub digits-on : c ≡ digit_class → i + 1 + length (digit_run (drop (i + 1) s)) ≡ x
    unfolding digit? digit_run
    digits-on m =
        let y : digit? b ≡ true = eq-eqb (class_of b) digit_class (sym k ∙ m) in
        let z : i + suc (length (prefix digit? (drop (suc i) s))) ≡ x = rw (prefix-on digit? b (drop (suc i) s) y) at digits-opened in
        rw (add-one i) (omega arith)

-- ---- where a number ends
module _ (s : List ℕ) (from e : ℕ) (l : e ≡ from + length (digit_run (drop from s))) where
  rest : drop (length (digit_run (drop from s))) (drop from s) ≡ drop e s
  rest = rw l (drop-drop (length (digit_run (drop from s))) from s)

  number-length : from + length (number_bytes (drop from s)) ≡ e + length (fraction (drop e s))
  unfolding number_bytes
  number-length = rw rest (omega (arith, length-append (digit_run (drop from s)) (fraction (drop e s)), l))

  whole : pointed? (drop e s) ≡ false → e ≡ from + length (number_bytes (drop from s))
  unfolding fraction
  whole q = let z : from + length (number_bytes (drop from s)) ≡ e + 0 = rw q at number-length in omega arith

  pub number-last : length s ≤ e → e ≡ from + length (number_bytes (drop from s))
  unfolding pointed?
  number-last h = whole (rw (drop_of_length-le s h))

  module _ (h : e < length s) {b : ℕ} (q : b ≡ get_or s e 0) where
    at-point : drop e s ≡ b ∷ drop (suc e) s
    at-point = rw q (drop-cons s e 0 h)

    pub number-point-last : {f : ℕ} → f ≡ e + 1 → length s ≤ f → e ≡ from + length (number_bytes (drop from s))
    unfolding pointed?
    number-point-last y m = whole (rw (at-point, drop_of_length-le s {i = suc e} (omega arith)))

    no-point : (t : List ℕ) → (b ≡ point → ⊥) → pointed? (b ∷ t) ≡ false
    unfolding pointed?
    no-point [] m = refl
    no-point (d ∷ t) m = rw (ne_eqb b point m)

    pub number-other : (b ≡ point → ⊥) → e ≡ from + length (number_bytes (drop from s))
    number-other m = whole (rw at-point (no-point (drop (suc e) s) m))

    module _ {f d c : ℕ} (y : f ≡ e + 1) (g : f < length s) (a : d ≡ get_or s f 0) (k : c ≡ class_of d) where
      two : drop e s ≡ b ∷ d ∷ drop (suc (suc e)) s
      two =
          let w : d ≡ get_or s (suc e) 0 = rw (← add-one e, ← y) a in
          rw (at-point, w) (ap (λ (r : List ℕ). b ∷ r) (drop-cons s (suc e) 0 (omega arith)))

      pub number-no-digit : (c ≡ digit_class → ⊥) → e ≡ from + length (number_bytes (drop from s))
      unfolding pointed? digit?
      number-no-digit m = whole (rw (two, ne_eqb (class_of d) digit_class (λ u. m (k ∙ u))) (and_none (eqb b point)))

      pub number-fraction : b ≡ point → c ≡ digit_class → {r : ℕ} → r ≡ f + length (digit_run (drop f s)) → r ≡ from + length (number_bytes (drop from s))
      unfolding pointed? digit? fraction
      number-fraction m u {r} v =
          let t : pointed? (drop e s) ≡ true = rw (two, eq-eqb b point m, eq-eqb (class_of d) digit_class (sym k ∙ u)) in
          let w : fraction (drop e s) ≡ point ∷ digit_run (drop (suc e) s) = rw (t, at-point) in
          let z : r ≡ suc e + length (digit_run (drop (suc e) s)) = rw (y, add-one e) at v in
          let a : from + length (number_bytes (drop from s)) ≡ e + suc (length (digit_run (drop (suc e) s))) = rw w at number-length in
          omega arith
