-- The table of classes: one test that is computed over all of it, and what it says of each byte.
use mathlib.Core.Path.{◌≡◌, refl, sym, ◌∙◌}
use mathlib.Core.Bool.{Bool, true, false, cond, ◌&&◌, ◌||◌, not}
use mathlib.Core.List.{List, [], ◌∷◌}
use mathlib.Core.Logic.{◌⊎◌, inl, inr, ⊎_elim, ◌↔◌}
use Prim.Native.Nat.{ℕ, zero, suc, ◌+◌, ◌-◌, ◌≤◌, ◌<◌}
use native.Mathlib.Omega.{arith}
use lib.Dec.{T, eqb, leb, ltb, eqb→eq, leb→le, ltb→lt, nltb→le}
use lib.ListN.{length, get_or, get_or-eq_default}
use borrow.Author.Tests.{le-ltb, eq-eqb}
use Rattle.base.proofs.Booleans.{and_T, true→T}
use Rattle.splitter.specs.Classes.{foreign, blank_class, mark_class, digit_class, letter_class, classes, class_of, mark_kind}
use Rattle.splitter.specs.Cutting.{marks}
use Rattle.splitter.specs.Bytes.{IsLetter, IsDigit, IsBlank, IsMark, IsForeign, ClassIs, letter, digit, mark, blank, other}

-- ---- a test that passes at each entry of a list and its place, counted from i
abbrev pub every : (ℕ → ℕ → Bool) → ℕ → List ℕ → Bool
every f i [] = true
every f i (x ∷ l) = f i x && every f (suc i) l

every-from : (f : ℕ → ℕ → Bool) (l : List ℕ) (i : ℕ) → T (every f i l) → (k : ℕ) → k < length l → T (f (i + k) (get_or l k 0))
every-from f [] i t k h = absurd (omega arith)
every-from f (x ∷ l) i t zero h =
    let e : i + 0 ≡ i = omega arith in rw e (and_T (f i x) (every f (suc i) l) t).0
every-from f (x ∷ l) i t (suc k) h =
    let e : i + suc k ≡ suc i + k = omega arith in rw e (every-from f l (suc i) (and_T (f i x) (every f (suc i) l) t).1 k (omega arith))

pub every-at : (f : ℕ → ℕ → Bool) (l : List ℕ) → T (every f 0 l) → (k : ℕ) → k < length l → T (f k (get_or l k 0))
every-at f l t k h = let e : 0 + k ≡ k = omega arith in rw e at (every-from f l 0 t k h)

-- ---- the classes by their bounds
bounds : ℕ → ℕ
bounds b =
    cond (ltb b 32) foreign
    (cond (ltb b 33) blank_class
    (cond (ltb b 48) mark_class
    (cond (ltb b 58) digit_class
    (cond (ltb b 65) mark_class
    (cond (ltb b 91) letter_class
    (cond (ltb b 97) mark_class (cond (ltb b 123) letter_class (cond (ltb b 127) mark_class foreign))))))))

-- the kind of a mark is that of its place among the marks
mark-right : ℕ → Bool
mark-right b = leb 3 (mark_kind b) && (leb (mark_kind b) 34 && eqb (get_or marks (mark_kind b - 3) 0) b)

right : ℕ → ℕ → Bool
right b c = eqb c (bounds b) && (not (eqb c mark_class) || mark-right b)

-- THE TEST, over the whole table
test : T (every right 0 classes)
unfolding right mark-right bounds classes mark_kind
test = tt

-- and over the marks: each is one, and has the kind of its place
mark-at : ℕ → ℕ → Bool
mark-at i b = eqb (bounds b) mark_class && eqb (mark_kind b) (3 + i)

marks-test : T (every mark-at 0 marks)
unfolding mark-at bounds mark_kind
marks-test = tt

side : (b k : ℕ) → (b < k) ⊎ (k ≤ b)
side b k = go (ltb b k) refl
  where
    go : (t : Bool) → ltb b k ≡ t → (b < k) ⊎ (k ≤ b)
    go true e = inl (ltb→lt b k (true→T (ltb b k) e))
    go false e = inr (nltb→le b k (true→T (not (ltb b k)) (rw e)))

in_table : (b : ℕ) → class_of b ≡ mark_class → b < length classes
unfolding class_of
in_table b e =
    ⊎_elim (λ l. l) (λ h. absurd (omega (arith, get_or-eq_default classes 0 h, e))) (side b (length classes))

class-bounds : (b : ℕ) → class_of b ≡ bounds b
unfolding class_of right bounds classes
class-bounds b =
    ⊎_elim
    (λ l. eqb→eq (get_or classes b 0) (bounds b) (and_T (eqb (get_or classes b 0) (bounds b)) _ (every-at right classes test b l)).0)
    (λ h. above h)
    (side b 256)
  where
    above : 256 ≤ b → get_or classes b 0 ≡ bounds b
    above h =
        get_or-eq_default classes 0 h
        ∙ sym
        (rw (
          le-ltb b 32 (omega arith),
          le-ltb b 33 (omega arith),
          le-ltb b 48 (omega arith),
          le-ltb b 58 (omega arith),
          le-ltb b 65 (omega arith),
          le-ltb b 91 (omega arith),
          le-ltb b 97 (omega arith),
          le-ltb b 123 (omega arith),
          le-ltb b 127 (omega arith),
        ))

step : (P : ℕ → Type 0) (b k x rest : ℕ) → (b < k → P x) → (k ≤ b → P rest) → P (cond (ltb b k) x rest)
step P b k x rest f g = go (ltb b k) refl
  where
    go : (t : Bool) → ltb b k ≡ t → P (cond t x rest)
    go true e = f (ltb→lt b k (true→T (ltb b k) e))
    go false e = g (nltb→le b k (true→T (not (ltb b k)) (rw e)))

-- a letter is in one of two bounds
apart : {b : ℕ} → (b < 65) ⊎ (((90 < b) × (b < 97)) ⊎ (122 < b)) → IsLetter b → ⊥
apart (inl h) (inl l) = omega arith
apart (inl h) (inr l) = omega arith
apart (inr (inl h)) (inl l) = omega arith
apart (inr (inl h)) (inr l) = omega arith
apart (inr (inr h)) (inl l) = omega arith
apart (inr (inr h)) (inr l) = omega arith

marked : {b : ℕ} → 33 ≤ b → b ≤ 126 → (b < 65) ⊎ (((90 < b) × (b < 97)) ⊎ (122 < b)) → (b < 48) ⊎ (57 < b) → ClassIs b mark_class
marked l h p d = mark (record { least = l; most = h; no-letter = apart p; no_digit = λ q. ⊎_elim (λ x. (omega arith)) (λ x. (omega arith)) d })

outside : {b : ℕ} → (b < 32) ⊎ (126 < b) → ClassIs b foreign
outside {b} (inl h) = other (record {
  no-letter = apart (inl (omega arith));
  no_digit = λ q. (omega arith);
  no-blank = λ q. (omega arith);
  no-mark = λ m. (let l = m.least in omega arith);
})
outside {b} (inr h) = other (record {
  no-letter = apart (inr (inr (omega arith)));
  no_digit = λ q. (omega arith);
  no-blank = λ q. (omega arith);
  no-mark = λ m. (let l = m.most in omega arith);
})

bounds-is : (b : ℕ) → ClassIs b (bounds b)
unfolding bounds
bounds-is b =
    step (ClassIs b) b 32 _ _ (λ l. outside (inl l))
    (λ h. step (ClassIs b) b 33 _ _ (λ l. blank (omega arith))
    (λ h. step (ClassIs b) b 48 _ _ (λ l. marked (omega arith) (omega arith) (inl (omega arith)) (inl l))
    (λ h. step (ClassIs b) b 58 _ _ (λ l. digit (h, omega arith))
    (λ h. step (ClassIs b) b 65 _ _ (λ l. marked (omega arith) (omega arith) (inl l) (inr (omega arith)))
    (λ h. step (ClassIs b) b 91 _ _ (λ l. letter (inl (h, omega arith)))
    (λ h. step (ClassIs b) b 97 _ _ (λ l. marked (omega arith) (omega arith) (inr (inl (omega arith, l))) (inr (omega arith)))
    (λ h. step (ClassIs b) b 123 _ _ (λ l. letter (inr (h, omega arith)))
    (λ h. step (ClassIs b) b 127 _ _ (λ l. marked (omega arith) (omega arith) (inr (inr (omega arith))) (inr (omega arith)))
    (λ h. outside (inr (omega arith)))))))))))

-- THE LAW: the class of each byte is what it must be
pub class-is : (b : ℕ) → ClassIs b (class_of b)
class-is b = rw (class-bounds b) (bounds-is b)

-- ---- the kinds of marks
mark-tested : (b : ℕ) → class_of b ≡ mark_class → T (mark-right b)
unfolding class_of right
mark-tested b e =
    let t : T (not (eqb (get_or classes b 0) mark_class) || mark-right b) =
    (and_T (eqb (get_or classes b 0) (bounds b)) _ (every-at right classes test b (omega (arith, in_table b e)))).1 in
    rw (eq-eqb (get_or classes b 0) mark_class e) at t

pub mark-range : (b : ℕ) → class_of b ≡ mark_class → (3 ≤ mark_kind b) × (mark_kind b ≤ 34)
unfolding mark-right
mark-range b e =
    let (x, y) = and_T (leb 3 (mark_kind b)) _ (mark-tested b e) in
    (leb→le 3 (mark_kind b) x, leb→le (mark_kind b) 34 (and_T (leb (mark_kind b) 34) _ y).0)

pub mark-place : (b : ℕ) → class_of b ≡ mark_class → get_or marks (mark_kind b - 3) 0 ≡ b
unfolding mark-right
mark-place b e =
    let (x, y) = and_T (leb 3 (mark_kind b)) _ (mark-tested b e) in
    eqb→eq (get_or marks (mark_kind b - 3) 0) b (and_T (leb (mark_kind b) 34) _ y).1

pub marks-right : (i : ℕ) → i < length marks → (class_of (get_or marks i 0) ≡ mark_class) × (mark_kind (get_or marks i 0) ≡ 3 + i)
unfolding mark-at
marks-right i l =
    let b = get_or marks i 0 in
    let (x, y) = and_T (eqb (bounds b) mark_class) (eqb (mark_kind b) (3 + i)) (every-at mark-at marks marks-test i l) in
    (class-bounds b ∙ eqb→eq (bounds b) mark_class x, eqb→eq (mark_kind b) (3 + i) y)

-- ---- each class, exactly
pub apart-digit : {b : ℕ} → IsLetter b → IsDigit b → ⊥
apart-digit (inl l) d = omega arith
apart-digit (inr l) d = omega arith

module _ {b : ℕ} where
  to-letter : {c : ℕ} → ClassIs b c → c ≡ letter_class → IsLetter b
  to-letter (letter h) e = h
  to-letter (digit h) e = absurd (omega arith)
  to-letter (mark h) e = absurd (omega arith)
  to-letter (blank h) e = absurd (omega arith)
  to-letter (other h) e = absurd (omega arith)

  from-letter : {c : ℕ} → ClassIs b c → IsLetter b → c ≡ letter_class
  from-letter (letter h) l = refl
  from-letter (digit h) l = ⊎_elim (λ x. absurd (omega arith)) (λ x. absurd (omega arith)) l
  from-letter (mark h) l = absurd (h.no-letter l)
  from-letter (blank h) l = ⊎_elim (λ x. absurd (omega arith)) (λ x. absurd (omega arith)) l
  from-letter (other h) l = absurd (h.no-letter l)

  to-digit : {c : ℕ} → ClassIs b c → c ≡ digit_class → IsDigit b
  to-digit (letter h) e = absurd (omega arith)
  to-digit (digit h) e = h
  to-digit (mark h) e = absurd (omega arith)
  to-digit (blank h) e = absurd (omega arith)
  to-digit (other h) e = absurd (omega arith)

  from-digit : {c : ℕ} → ClassIs b c → IsDigit b → c ≡ digit_class
  from-digit (letter h) l = ⊎_elim (λ x. absurd (omega arith)) (λ x. absurd (omega arith)) h
  from-digit (digit h) l = refl
  from-digit (mark h) l = absurd (h.no_digit l)
  from-digit (blank h) l = absurd (omega arith)
  from-digit (other h) l = absurd (h.no_digit l)

  to-blank : {c : ℕ} → ClassIs b c → c ≡ blank_class → IsBlank b
  to-blank (letter h) e = absurd (omega arith)
  to-blank (digit h) e = absurd (omega arith)
  to-blank (mark h) e = absurd (omega arith)
  to-blank (blank h) e = h
  to-blank (other h) e = absurd (omega arith)

  from-blank : {c : ℕ} → ClassIs b c → IsBlank b → c ≡ blank_class
  from-blank (letter h) l = ⊎_elim (λ x. absurd (omega arith)) (λ x. absurd (omega arith)) h
  from-blank (digit h) l = absurd (omega arith)
  from-blank (mark h) l = absurd (let m = h.least in omega arith)
  from-blank (blank h) l = refl
  from-blank (other h) l = absurd (h.no-blank l)

  to-mark : {c : ℕ} → ClassIs b c → c ≡ mark_class → IsMark b
  to-mark (letter h) e = absurd (omega arith)
  to-mark (digit h) e = absurd (omega arith)
  to-mark (mark h) e = h
  to-mark (blank h) e = absurd (omega arith)
  to-mark (other h) e = absurd (omega arith)

  from-mark : {c : ℕ} → ClassIs b c → IsMark b → c ≡ mark_class
  from-mark (letter h) l = absurd (l.no-letter h)
  from-mark (digit h) l = absurd (l.no_digit h)
  from-mark (mark h) l = refl
  from-mark (blank h) l = absurd (let m = l.least in omega arith)
  from-mark (other h) l = absurd (h.no-mark l)

  to-foreign : {c : ℕ} → ClassIs b c → c ≡ foreign → IsForeign b
  to-foreign (letter h) e = absurd (omega arith)
  to-foreign (digit h) e = absurd (omega arith)
  to-foreign (mark h) e = absurd (omega arith)
  to-foreign (blank h) e = absurd (omega arith)
  to-foreign (other h) e = h

  from-foreign : {c : ℕ} → ClassIs b c → IsForeign b → c ≡ foreign
  from-foreign (letter h) l = absurd (l.no-letter h)
  from-foreign (digit h) l = absurd (l.no_digit h)
  from-foreign (mark h) l = absurd (l.no-mark h)
  from-foreign (blank h) l = absurd (l.no-blank h)
  from-foreign (other h) l = refl

pub letter-iff : (b : ℕ) → (class_of b ≡ letter_class) ↔ IsLetter b
letter-iff b = (to-letter (class-is b), from-letter (class-is b))

pub digit-iff : (b : ℕ) → (class_of b ≡ digit_class) ↔ IsDigit b
digit-iff b = (to-digit (class-is b), from-digit (class-is b))

pub blank-iff : (b : ℕ) → (class_of b ≡ blank_class) ↔ IsBlank b
blank-iff b = (to-blank (class-is b), from-blank (class-is b))

pub mark-iff : (b : ℕ) → (class_of b ≡ mark_class) ↔ IsMark b
mark-iff b = (to-mark (class-is b), from-mark (class-is b))

pub foreign-iff : (b : ℕ) → (class_of b ≡ foreign) ↔ IsForeign b
foreign-iff b = (to-foreign (class-is b), from-foreign (class-is b))
