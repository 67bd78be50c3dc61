-- The items that are found are the only cutting of a line: each is an item and as long as it can be.
use mathlib.Core.Path.{◌≡◌, refl, sym, ap, ◌∙◌}
use mathlib.Core.Bool.{Bool, true, false, ◌&&◌}
use mathlib.Core.List.{List, [], ◌∷◌, ◌++◌, append_assoc, append-nil}
use mathlib.Core.Logic.{◌⊎◌, inl, inr, ⊎_elim}
use Prim.Native.Nat.{ℕ, zero, suc, ◌+◌, ◌≤◌, ◌<◌}
use native.Mathlib.Omega.{arith}
use lib.Dec.{eqb, leb, eqb→eq, leb→le}
use lib.ListN.{length, get_or, take, drop, length-append, length-drop, take-append-drop}
use lib.Seq.{drop-drop, drop-append_seam, take-append_seam}
use borrow.Author.Tests.{eq-eqb, ne_eqb, le-leb, lt-leb}
use Rattle.base.specs.Lists.{AllOf}
use Rattle.base.proofs.Bits.{same?}
use Rattle.base.proofs.Lists.{all_drop}
use Rattle.base.proofs.Booleans.{and_T, T→true, true→T}
use Rattle.splitter.specs.Classes.{blank_class, digit_class, letter_class, class_of, digit?, word_byte?, blank?}
use Rattle.splitter.specs.Bytes.{IsLetter, IsDigit, IsBlank, ClassIs}
use Rattle.splitter.specs.Listing.{space, prefix, word_run}
use Rattle.splitter.specs.Items.{point, digit_run, pointed?, fraction, number_bytes, item_bytes, items_from}
use Rattle.splitter.specs.Cutting.{IsWord, Digits, digits, IsNumber, whole, pointed, IsItem, Cut, end, blank, item}
use Rattle.splitter.proofs.ForeignLaws.{Clean}
use Rattle.splitter.proofs.RunLaws.{prefix-on, prefix-stop, prefix-take}
use Rattle.splitter.proofs.ItemLaws.{item-word, item-number, item-mark, item-first}
use Rattle.splitter.proofs.TableLaws.{class-is, letter-iff, digit-iff, blank-iff}

-- ---- tests of bytes
word_byte : (b : ℕ) → IsLetter b ⊎ IsDigit b → word_byte? b ≡ true
unfolding word_byte?
word_byte b (inl l) = le-leb digit_class (class_of b) (let e = (letter-iff b).1 l in omega arith)
word_byte b (inr l) = le-leb digit_class (class_of b) (let e = (digit-iff b).1 l in omega arith)

is_digit : (b : ℕ) → IsDigit b → digit? b ≡ true
unfolding digit?
is_digit b l = eq-eqb (class_of b) digit_class ((digit-iff b).1 l)

not_digit : (b : ℕ) → (IsDigit b → ⊥) → digit? b ≡ false
unfolding digit?
not_digit b f = ne_eqb (class_of b) digit_class (λ e. f ((digit-iff b).0 e))

-- ---- the longest beginning
module _ (p : ℕ → Bool) where
  -- bytes that pass the test are within it
  pub each-prefix : {P : ℕ → Type 0} → ((b : ℕ) → P b → p b ≡ true) → (v t : List ℕ) → AllOf P v → length v ≤ length (prefix p (v ++ t))
  each-prefix f [] t h = omega arith
  each-prefix f (b ∷ u) t (x, y) = rw (prefix-on p b (u ++ t) (f b x)) (let h = each-prefix f u t y in omega arith)

  -- it ends before a byte that fails
  pub each-ends : {P : ℕ → Type 0} → ((b : ℕ) → P b → p b ≡ true) → (v : List ℕ) (c : ℕ) (t : List ℕ) → AllOf P v → p c ≡ false → prefix p (v ++ (c ∷ t)) ≡ v
  each-ends f [] c t h e = prefix-stop p c t e
  each-ends f (b ∷ u) c t (x, y) e = rw (prefix-on p b (u ++ (c ∷ t)) (f b x)) (ap (λ (r : List ℕ). b ∷ r) (each-ends f u c t y e))

  -- it is all of a row that passes
  pub each_all : {P : ℕ → Type 0} → ((b : ℕ) → P b → p b ≡ true) → (v : List ℕ) → AllOf P v → prefix p v ≡ v
  unfolding prefix
  each_all f [] h = refl
  each_all f (b ∷ u) (x, y) = rw (prefix-on p b u (f b x)) (ap (λ (r : List ℕ). b ∷ r) (each_all f u y))

  pub prefix-whole : (s : List ℕ) → prefix p s ++ drop (length (prefix p s)) s ≡ s
  prefix-whole s = rw (← prefix-take p s) (let e = ap length (prefix-take p s) in rw e (take-append-drop (length (prefix p s)) s))

module _ (p : ℕ → Bool) {P : ℕ → Type 0} (f : (b : ℕ) → p b ≡ true → P b) where
  each_step : (b : ℕ) (s : List ℕ) (x : Bool) → p b ≡ x → AllOf P (prefix p s) → AllOf P (prefix p (b ∷ s))
  each_step b s true e r = rw (prefix-on p b s e) (f b e, r)
  each_step b s false e r = rw (prefix-stop p b s e) tt

  -- all of it passes
  pub prefix-each : (s : List ℕ) → AllOf P (prefix p s)
  unfolding prefix
  prefix-each [] = tt
  prefix-each (b ∷ s) = each_step b s (p b) refl (prefix-each s)

-- ---- an item is as long as it can be
longest-word : (b : ℕ) (s v t : List ℕ) → IsWord v → v ++ t ≡ b ∷ s → (IsLetter b) × (length v ≤ length (word_run (b ∷ s)))
unfolding word_run
longest-word b s v t (IsWord.word c u l x) e =
    let z : c ≡ b = ap (λ (r : List ℕ). get_or r 0 0) e in
    let h : length (c ∷ u) ≤ length (prefix word_byte? ((c ∷ u) ++ t)) = each-prefix word_byte? word_byte (c ∷ u) t (inl l, x) in
    (rw z at l, rw e at h)

-- a word is its own run, and so where a blank follows it
word_bytes : {w : List ℕ} → IsWord w → AllOf (λ c. IsLetter c ⊎ IsDigit c) w
word_bytes (IsWord.word b s l x) = (inl l, x)

pub word-all : {w : List ℕ} → IsWord w → word_run w ≡ w
unfolding word_run
word-all {w} h = each_all word_byte? word_byte w (word_bytes h)

pub word-ends : {w : List ℕ} → IsWord w → (t : List ℕ) → word_run (w ++ (space ∷ t)) ≡ w
unfolding word_run word_byte?
word-ends {w} h t = each-ends word_byte? word_byte w space t (word_bytes h) (lt-leb digit_class (class_of space) (omega (arith, (blank-iff space).1 refl)))

-- ---- digits
starts-digit : (b : ℕ) (s v t : List ℕ) → Digits v → v ++ t ≡ b ∷ s → IsDigit b
starts-digit b s v t (digits c u l x) e = let z : c ≡ b = ap (λ (r : List ℕ). get_or r 0 0) e in rw z at l

all_digits : {v : List ℕ} → Digits v → AllOf IsDigit v
all_digits (digits c u l x) = (l, x)

point-stops : digit? point ≡ false
point-stops = not_digit point (λ h. (omega arith))

point-goes : (e t : List ℕ) → Digits e → (pointed? (point ∷ (e ++ t)) ≡ true) × (length e ≤ length (digit_run (e ++ t)))
unfolding pointed? digit_run
point-goes e t (digits c u l x) = (rw (is_digit c l), each-prefix digit? is_digit (c ∷ u) t (l, x))

longest-pointed : (d e t : List ℕ) → Digits d → Digits e → length d + suc (length e) ≤ length (number_bytes (d ++ (point ∷ (e ++ t))))
unfolding number_bytes fraction digit_run
longest-pointed d e t x y =
    let g = point-goes e t y in
    let z : prefix digit? (d ++ (point ∷ (e ++ t))) ≡ d = each-ends digit? is_digit d point (e ++ t) (all_digits x) point-stops in
    rw (z, drop-append_seam d (point ∷ (e ++ t)), g.0) (omega (arith, length-append d (point ∷ digit_run (e ++ t)), g.1))

longest-number : (b : ℕ) (s v t : List ℕ) → IsNumber v → v ++ t ≡ b ∷ s → (IsDigit b) × (length v ≤ length (number_bytes (b ∷ s)))
unfolding number_bytes digit_run
longest-number b s v t (whole x) e = (
  starts-digit b s v t x e,
  (let h : length v ≤ length (prefix digit? (b ∷ s)) = rw e at (each-prefix digit? is_digit v t (all_digits x)) in
      omega (arith, h, length-append (digit_run (b ∷ s)) (fraction (drop (length (digit_run (b ∷ s))) (b ∷ s))))),
)
longest-number b s v t (pointed d f x y q) e =
    let z : d ++ (point ∷ (f ++ t)) ≡ b ∷ s = sym (append_assoc d (point ∷ f) t) ∙ (rw q at e) in (
      starts-digit b s d (point ∷ (f ++ t)) x z,
      (let h = longest-pointed d f t x y in let w : length v ≡ length d + suc (length f) = rw q (length-append d (point ∷ f)) in
          rw w (rw z at h)),
    )

-- no item is longer than the one that is found
pub item-longest : (b : ℕ) (s v t : List ℕ) → v ++ t ≡ b ∷ s → IsItem v → length v ≤ length (item_bytes b s)
item-longest b s v t e (IsItem.word x) =
    let h = longest-word b s v t x e in rw (item-word b s ((letter-iff b).1 h.0)) h.1
item-longest b s v t e (IsItem.number x) =
    let h = longest-number b s v t x e in rw (item-number b s ((digit-iff b).1 h.0)) h.1
item-longest b s v t e (IsItem.mark c m q) = rw q (let h = item-first b s in omega arith)

-- ---- what is found is an item
byte_word : (b : ℕ) → word_byte? b ≡ true → IsLetter b ⊎ IsDigit b
unfolding word_byte?
byte_word b e = go (class-is b) (leb→le digit_class (class_of b) (true→T (leb digit_class (class_of b)) e))
  where
    go : {c : ℕ} → ClassIs b c → digit_class ≤ c → IsLetter b ⊎ IsDigit b
    go (ClassIs.letter h) l = inl h
    go (ClassIs.digit h) l = inr h
    go (ClassIs.mark h) l = absurd (omega arith)
    go (ClassIs.blank h) l = absurd (omega arith)
    go (ClassIs.other h) l = absurd (omega arith)

byte-digit : (b : ℕ) → digit? b ≡ true → IsDigit b
unfolding digit?
byte-digit b e = (digit-iff b).0 (eqb→eq (class_of b) digit_class (true→T (digit? b) e))

pub word-is : (b : ℕ) (s : List ℕ) → IsLetter b → IsWord (word_run (b ∷ s))
unfolding word_run
word-is b s l = rw (prefix-on word_byte? b s (word_byte b (inl l))) (IsWord.word b (prefix word_byte? s) l (prefix-each word_byte? byte_word s))

digits-is : (b : ℕ) (s : List ℕ) → IsDigit b → Digits (digit_run (b ∷ s))
unfolding digit_run
digits-is b s l = rw (prefix-on digit? b s (is_digit b l)) (digits b (prefix digit? s) l (prefix-each digit? byte-digit s))

-- a point with its digits
fraction-is : (d r : List ℕ) → Digits d → (x : Bool) → pointed? r ≡ x → IsNumber (d ++ fraction r)
unfolding fraction pointed?
fraction-is d r h false e = rw (e, append-nil d) (whole h)
fraction-is d r h true e = rw e (pointed d (digit_run (drop 1 r)) h (behind r e) refl)
  where
    behind : (r : List ℕ) → pointed? r ≡ true → Digits (digit_run (drop 1 r))
    behind [] e = absurd (true→T false e)
    behind (p ∷ []) e = absurd (true→T false e)
    behind (p ∷ c ∷ t) e = digits-is c t (byte-digit c (T→true (digit? c) (and_T (eqb p point) (digit? c) (true→T (eqb p point && digit? c) e)).1))

number_is : (b : ℕ) (s : List ℕ) → IsDigit b → IsNumber (number_bytes (b ∷ s))
unfolding number_bytes
number_is b s l =
    let r = drop (length (digit_run (b ∷ s))) (b ∷ s) in fraction-is (digit_run (b ∷ s)) r (digits-is b s l) (pointed? r) refl

-- ---- what is found begins the line
pub word-whole : (s : List ℕ) → word_run s ++ drop (length (word_run s)) s ≡ s
unfolding word_run
word-whole s = prefix-whole word_byte? s

digits-whole : (s : List ℕ) → digit_run s ++ drop (length (digit_run s)) s ≡ s
unfolding digit_run
digits-whole s = prefix-whole digit? s

fraction-whole : (r : List ℕ) (x : Bool) → pointed? r ≡ x → fraction r ++ drop (length (fraction r)) r ≡ r
unfolding fraction pointed?
fraction-whole r false e = rw e
fraction-whole [] true e = absurd (true→T false e)
fraction-whole (p ∷ []) true e = absurd (true→T false e)
fraction-whole (p ∷ c ∷ t) true e =
    let z : p ≡ point = eqb→eq p point (and_T (eqb p point) (digit? c) (true→T (eqb p point && digit? c) e)).0 in
    rw (e, z) (ap (λ (l : List ℕ). point ∷ l) (digits-whole (c ∷ t)))

number-whole : (s : List ℕ) → number_bytes s ++ drop (length (number_bytes s)) s ≡ s
unfolding number_bytes
number-whole s =
    let a = digit_run s in
    let r = drop (length a) s in
    let f = fraction r in
    let z : drop (length (a ++ f)) s ≡ drop (length f) r = rw (length-append a f) (sym (drop-drop (length f) (length a) s)) in
    rw z (append_assoc a f (drop (length f) r) ∙ ap (λ (l : List ℕ). a ++ l) (fraction-whole r (pointed? r) refl) ∙ digits-whole s)

item-whole : (b : ℕ) (s : List ℕ) → item_bytes b s ++ drop (length (item_bytes b s)) (b ∷ s) ≡ b ∷ s
item-whole b s = go (same? (class_of b) letter_class) (same? (class_of b) digit_class)
  where
    go : (class_of b ≡ letter_class) ⊎ (class_of b ≡ letter_class → ⊥) → (class_of b ≡ digit_class) ⊎ (class_of b ≡ digit_class → ⊥)
        → item_bytes b s ++ drop (length (item_bytes b s)) (b ∷ s) ≡ b ∷ s
    go (inl l) d = rw (item-word b s l) (word-whole (b ∷ s))
    go (inr l) (inl d) = rw (item-number b s d) (number-whole (b ∷ s))
    go (inr l) (inr d) = rw (item-mark b s refl l d)

-- ---- the cutting
pub at_item : (k b : ℕ) (s : List ℕ) → (IsBlank b → ⊥) → items_from (suc k) (b ∷ s) ≡ item_bytes b s ∷ items_from k (drop (length (item_bytes b s)) (b ∷ s))
unfolding items_from blank?
at_item k b s h = rw (ne_eqb (class_of b) blank_class (λ e. h ((blank-iff b).0 e)), items_from)

pub at-space : (k b : ℕ) (s : List ℕ) → IsBlank b → items_from (suc k) (b ∷ s) ≡ items_from k s
unfolding items_from blank?
at-space k b s h = rw (eq-eqb (class_of b) blank_class ((blank-iff b).1 h), items_from)

module _ (k b : ℕ) (s : List ℕ) where
  cut-item : (IsBlank b → ⊥) → IsItem (item_bytes b s) → Cut (drop (length (item_bytes b s)) (b ∷ s)) (items_from k (drop (length (item_bytes b s)) (b ∷ s)))
      → Cut (b ∷ s) (items_from (suc k) (b ∷ s))
  cut-item h i c = rw (at_item k b s h) (item (b ∷ s) (item_bytes b s) (drop (length (item_bytes b s)) (b ∷ s)) _ (item-whole b s) i (item-longest b s) c)

  cut_step : {c : ℕ} → ClassIs b c → Clean b → Cut s (items_from k s)
      → Cut (drop (length (item_bytes b s)) (b ∷ s)) (items_from k (drop (length (item_bytes b s)) (b ∷ s))) → Cut (b ∷ s) (items_from (suc k) (b ∷ s))
  cut_step (ClassIs.letter h) f x y =
      cut-item (λ e. ⊎_elim (λ l. (omega arith)) (λ l. (omega arith)) h) (rw (item-word b s ((letter-iff b).1 h)) (IsItem.word (word-is b s h))) y
  cut_step (ClassIs.digit h) f x y = cut-item (λ e. (omega arith)) (rw (item-number b s ((digit-iff b).1 h)) (IsItem.number (number_is b s h))) y
  cut_step (ClassIs.mark h) f x y =
      cut-item (λ e. (let l = h.least in omega arith))
      (rw (item-mark b s refl (λ e. h.no-letter ((letter-iff b).0 e)) (λ e. h.no_digit ((digit-iff b).0 e))) (IsItem.mark b h refl)) y
  cut_step (ClassIs.blank h) f x y = rw (at-space k b s h, h) (blank s (items_from k s) x)
  cut_step (ClassIs.other h) f x y = absurd (f h)

-- THE LAW: the items that are found are a cutting of the line
pub cut_of : (k : ℕ) (s : List ℕ) → length s ≤ k → AllOf Clean s → Cut s (items_from k s)
unfolding items_from
cut_of zero [] l h = end
cut_of zero (b ∷ u) l h = absurd (omega arith)
cut_of (suc k) [] l h = end
cut_of (suc k) (b ∷ u) l (f, x) =
    cut_step k b u (class-is b) f (cut_of k u (omega arith) x)
    (cut_of k (drop (length (item_bytes b u)) (b ∷ u))
    (omega (arith, length-drop (length (item_bytes b u)) (b ∷ u), item-first b u)) (all_drop Clean (length (item_bytes b u)) (b ∷ u) (f, x)))

-- ---- it is the only one
item-some : {u : List ℕ} → IsItem u → 0 < length u
item-some (IsItem.word (IsWord.word b s l x)) = omega arith
item-some (IsItem.number (whole (digits b s l x))) = omega arith
item-some (IsItem.number (pointed d e x y q)) = rw q (omega (arith, length-append d (point ∷ e)))
item-some (IsItem.mark b m q) = rw q (omega arith)

not-space : {u : List ℕ} (t s : List ℕ) → IsItem u → u ++ t ≡ space ∷ s → ⊥
not-space {u} t s (IsItem.word x) e = go (longest-word space s u t x e).0
  where
    go : IsLetter space → ⊥
    go (inl l) = omega arith
    go (inr l) = omega arith
not-space {u} t s (IsItem.number x) e = let h = (longest-number space s u t x e).0 in omega arith
not-space {u} t s (IsItem.mark b m q) e =
    let z : (b ∷ []) ++ t ≡ space ∷ s = rw q at e in
    let y : b ≡ space = ap (λ (r : List ℕ). get_or r 0 0) z in
    let l = m.least in omega arith

-- THE LAW: a line has one cutting
pub cut-one : {s : List ℕ} {us : List (List ℕ)} → Cut s us → (r : List ℕ) → r ≡ s → {vs : List (List ℕ)} → Cut r vs → us ≡ vs
cut-one end r e end = refl
cut-one end r e (blank s vs y) = absurd (omega (arith, ap length e))
cut-one end r e (item s u t vs q i m y) = absurd (omega (arith, ap length (q ∙ e), length-append u t, item-some i))
cut-one (blank s us x) r e end = absurd (omega (arith, ap length e))
cut-one (blank s us x) r e (blank s' vs y) = cut-one x s' (ap (λ (l : List ℕ). drop 1 l) e) y
cut-one (blank s us x) r e (item s' u t vs q i m y) = absurd (not-space t s i (q ∙ e))
cut-one (item s u t us q i m x) r e end = absurd (omega (arith, ap length (q ∙ sym e), length-append u t, item-some i))
cut-one (item s u t us q i m x) r e (blank s' vs y) = absurd (not-space t s' i (q ∙ sym e))
cut-one (item s u t us q i m x) r e (item s' v w vs q' i' m' y) =
    let n : length v ≡ length u = (let a = m v w (q' ∙ e) i' in let b = m' u t (q ∙ sym e) i in omega arith) in
    let o : v ++ w ≡ u ++ t = q' ∙ e ∙ sym q in
    let a : v ≡ u = sym (take-append_seam v w) ∙ ap (λ (l : List ℕ). take (length v) l) o ∙ (rw n (take-append_seam u t)) in
    let b : w ≡ t = sym (drop-append_seam v w) ∙ ap (λ (l : List ℕ). drop (length v) l) o ∙ (rw n (drop-append_seam u t)) in
    let c = cut-one x w b y in
    rw (a, c)
