-- The items of a line, one after the other, and what is put into the row.
use mathlib.Core.Path.{◌≡◌, refl, sym, ap, ◌∙◌}
use mathlib.Core.Bool.{true, false}
use mathlib.Core.List.{List, [], ◌∷◌, ◌++◌, map, append_assoc, append-nil}
use Prim.Native.Nat.{ℕ, zero, suc, ◌+◌, ◌-◌, ◌≤◌, ◌<◌}
use native.Mathlib.Numerals.{add-one}
use native.Mathlib.Omega.{arith}
use lib.ListN.{length, get_or, take, drop, set, length-append, drop_of_length-le}
use lib.Seq.{drop-cons, drop-drop, take-suc-set, take_all}
use borrow.Author.Tests.{eq-eqb, ne_eqb, le-leb}
use mathlib.Core.Logic.{◌⊎◌, inl, inr}
use Rattle.base.proofs.Bits.{same?}
use Rattle.splitter.specs.Classes.{class_of, blank_class, digit_class, letter_class, blank?, digit?, letter?, word_byte?, mark_kind}
use Rattle.splitter.specs.Listing.{word_run}
use Rattle.splitter.specs.inside.Index.{run_of}
use Rattle.splitter.specs.inside.Cut.{item_in}
use Rattle.splitter.specs.declared.runs.Run.{Run}
use Rattle.splitter.specs.declared.cutting.Item.{Item}
use Rattle.splitter.proofs.RunLaws.{run_is, prefix-on}
use Rattle.splitter.specs.Items.{max_split, number_kind, digit_run, fraction, number_bytes, item_bytes, items_from, word_kind, kind_of, kinds_of}

-- ---- one item
is_digit : (b : ℕ) → class_of b ≡ digit_class → digit? b ≡ true
unfolding digit?
is_digit b e = eq-eqb (class_of b) digit_class e

abbrev pub item : ℕ → ℕ → Item
item k e = record { kind = k; end = e }

pub word_first : (b : ℕ) (s : List ℕ) → class_of b ≡ letter_class → word_run (b ∷ s) ≡ b ∷ word_run s
unfolding word_run word_byte?
word_first b s e = prefix-on word_byte? b s (le-leb digit_class (class_of b) (omega arith))

pub digit-first : (b : ℕ) (s : List ℕ) → class_of b ≡ digit_class → digit_run (b ∷ s) ≡ b ∷ digit_run s
unfolding digit_run digit?
digit-first b s e = prefix-on digit? b s (eq-eqb (class_of b) digit_class e)

pub number-first : (b : ℕ) (s : List ℕ) → class_of b ≡ digit_class → number_bytes (b ∷ s) ≡ b ∷ (digit_run s ++ fraction (drop (length (digit_run s)) s))
unfolding number_bytes
number-first b s e = rw (digit-first b s e)

not-letter : (b : ℕ) {c : ℕ} → c ≡ class_of b → (c ≡ letter_class → ⊥) → letter? b ≡ false
unfolding letter?
not-letter b k m = ne_eqb (class_of b) letter_class (λ u. m (k ∙ u))

not_digit : (b : ℕ) {c : ℕ} → c ≡ class_of b → (c ≡ digit_class → ⊥) → digit? b ≡ false
unfolding digit?
not_digit b k m = ne_eqb (class_of b) digit_class (λ u. m (k ∙ u))

pub item-word : (b : ℕ) (s : List ℕ) → class_of b ≡ letter_class → item_bytes b s ≡ word_run (b ∷ s)
unfolding item_bytes letter?
item-word b s e = rw (eq-eqb (class_of b) letter_class e)

pub item-number : (b : ℕ) (s : List ℕ) → class_of b ≡ digit_class → item_bytes b s ≡ number_bytes (b ∷ s)
unfolding item_bytes
item-number b s e = rw (not-letter b (sym e) (λ u. (omega arith)), is_digit b e)

pub item-mark : (b : ℕ) (s : List ℕ) {c : ℕ} → c ≡ class_of b → (c ≡ letter_class → ⊥) → (c ≡ digit_class → ⊥) → item_bytes b s ≡ b ∷ []
unfolding item_bytes
item-mark b s k l d = rw (not-letter b k l, not_digit b k d)

-- an item is not empty
pub item-first : (b : ℕ) (s : List ℕ) → 0 < length (item_bytes b s)
item-first b s = go (same? (class_of b) letter_class) (same? (class_of b) digit_class)
  where
    go : (class_of b ≡ letter_class) ⊎ (class_of b ≡ letter_class → ⊥) → (class_of b ≡ digit_class) ⊎ (class_of b ≡ digit_class → ⊥)
        → 0 < length (item_bytes b s)
    go (inl l) d = rw (item-word b s l, word_first b s l) (omega arith)
    go (inr l) (inl d) = rw (item-number b s d, number-first b s d) (omega arith)
    go (inr l) (inr d) = rw (item-mark b s refl l d) (omega arith)

-- the item that stands at i
module _ (ws : List (List ℕ)) (line : List ℕ) (i : ℕ) (l : i < length line) {b c : ℕ} (q : b ≡ get_or line i 0) (k : c ≡ class_of b) where
  item-opened : drop i line ≡ b ∷ drop (suc i) line
  item-opened = rw q (drop-cons line i 0 l)

  pub word-item : {r : Run} {d v : ℕ} → c ≡ letter_class → r ≡ run_of line i → d ≡ word_kind ws (word_run (drop i line)) → v ≡ d
      → item v r.end ≡ item_in ws i (drop i line)
  unfolding item_in kind_of letter?
  word-item {r} {d} {v} m e a z =
      let h : class_of b ≡ letter_class = sym k ∙ m in
      let y : r.end ≡ i + length (word_run (b ∷ drop (suc i) line)) = rw (e, run_is line i, item-opened) in
      let x : d ≡ word_kind ws (b ∷ word_run (drop (suc i) line)) = rw (item-opened, word_first b (drop (suc i) line) h) at a in
      rw (z, item-opened, item-word b (drop (suc i) line) h, y, word_first b (drop (suc i) line) h, eq-eqb (class_of b) letter_class h, x)

  pub number-item : {e : ℕ} → c ≡ digit_class → e ≡ i + length (number_bytes (drop i line)) → item number_kind e ≡ item_in ws i (drop i line)
  unfolding item_in kind_of
  number-item {e} m a =
      let h : class_of b ≡ digit_class = sym k ∙ m in
      let y : e ≡ i + length (number_bytes (b ∷ drop (suc i) line)) = rw item-opened at a in
      rw (item-opened, item-number b (drop (suc i) line) h, y, number-first b (drop (suc i) line) h, not-letter b k (λ u. (omega arith)), is_digit b h)

  pub mark-item : {d v w : ℕ} → (c ≡ letter_class → ⊥) → (c ≡ digit_class → ⊥) → d ≡ mark_kind b → w ≡ d → v ≡ w → item v (i + 1) ≡ item_in ws i (drop i line)
  unfolding item_in kind_of
  mark-item {d} {v} {w} m n a y z =
      let x : v ≡ mark_kind b = z ∙ y ∙ a in
      rw (item-opened, item-mark b (drop (suc i) line) k m n, not-letter b k m, not_digit b k n, x)

-- ---- the items one after the other
-- k kinds are put down, the line is read up to i, and what is left gives what the whole line says
pub record CutTo (ws : List (List ℕ)) (line kinds : List ℕ) (i k : ℕ) : Type 0 where
  pub fuel : ℕ
  pub enough : length line - i ≤ fuel
  pub left : take k kinds ++ map (kind_of ws) (items_from fuel (drop i line)) ≡ kinds_of ws line

pub cut-begins : (ws : List (List ℕ)) (line kinds : List ℕ) → CutTo ws line kinds 0 0
unfolding kinds_of
cut-begins ws line kinds = record { fuel = length line; enough = omega arith; left = refl }

module _ (ws : List (List ℕ)) (line kinds : List ℕ) (i k : ℕ) (g : CutTo ws line kinds i k) where
  pub cut-ends : length line ≤ i → take k kinds ≡ kinds_of ws line
  unfolding items_from
  cut-ends l = go g.fuel g.left
    where
      go : (f : ℕ) → take k kinds ++ map (kind_of ws) (items_from f (drop i line)) ≡ kinds_of ws line → take k kinds ≡ kinds_of ws line
      go zero e = rw (append-nil (take k kinds)) at e
      go (suc f) e = rw (drop_of_length-le line l, append-nil (take k kinds)) at e

  module _ (l : i < length line) {b c : ℕ} (q : b ≡ get_or line i 0) (h : c ≡ class_of b) where
    open-line : drop i line ≡ b ∷ drop (suc i) line
    open-line = rw q (drop-cons line i 0 l)

    -- the fuel is not at its end
    burns : {A : Type 0} → ((f : ℕ) → length line - i ≤ suc f
        → take k kinds ++ map (kind_of ws) (items_from (suc f) (b ∷ drop (suc i) line)) ≡ kinds_of ws line → A) → A
    burns {A} step = go g.fuel g.enough (rw open-line at g.left)
      where
        go : (f : ℕ) → length line - i ≤ f → take k kinds ++ map (kind_of ws) (items_from f (b ∷ drop (suc i) line)) ≡ kinds_of ws line → A
        go zero m e = absurd (omega arith)
        go (suc f) m e = step f m e

    pub cut-blank : c ≡ blank_class → CutTo ws line kinds (i + 1) k
    unfolding items_from blank?
    cut-blank m =
        rw (add-one i)
        (burns
        (λ f n e. record { fuel = f; enough = omega arith; left = rw (eq-eqb (class_of b) blank_class (sym h ∙ m), items_from) at e }))

    module _ (m : c ≡ blank_class → ⊥) where
      next-item : {A : Type 0} → ((f : ℕ) → length line - i ≤ suc f
          → take k kinds ++ (kind_of ws (item_bytes b (drop (suc i) line))
          ∷ map (kind_of ws) (items_from f (drop (length (item_bytes b (drop (suc i) line))) (b ∷ drop (suc i) line)))) ≡ kinds_of ws line
          → A) → A
      unfolding items_from blank?
      next-item step = burns (λ f n e. step f n (rw (ne_eqb (class_of b) blank_class (λ u. m (h ∙ u)), items_from) at e))

      pub cut-many : max_split ≤ k → length kinds ≡ max_split → max_split < length (kinds_of ws line)
      cut-many n o =
          next-item
          (λ f p e.
          let rest = map (kind_of ws) (items_from f (drop (length (item_bytes b (drop (suc i) line))) (b ∷ drop (suc i) line))) in
          let kind = kind_of ws (item_bytes b (drop (suc i) line)) in
          let z : take k kinds ≡ kinds = take_all k kinds (omega arith) in
          let w : length (kinds ++ (kind ∷ rest)) ≡ length (kinds_of ws line) = ap length (rw z at e) in
          omega (arith, length-append kinds (kind ∷ rest), w, o))

      pub cut-item : {t : Item} → t ≡ item_in ws i (drop i line) → k < length kinds → CutTo ws line (set kinds k t.kind) t.end (k + 1)
      unfolding item_in
      cut-item {t} y n =
          next-item
          (λ f p e.
          let s = drop (suc i) line in
          let z : t ≡ item (kind_of ws (item_bytes b s)) (i + length (item_bytes b s)) = rw open-line at y in
          let a : t.kind ≡ kind_of ws (item_bytes b s) = rw z in
          let w : t.end ≡ i + length (item_bytes b s) = rw z in
          let v : drop t.end line ≡ drop (length (item_bytes b s)) (b ∷ s) = rw (w, ← drop-drop (length (item_bytes b s)) i line, open-line) in
          record {
            fuel = f;
            enough = omega (arith, w, item-first b s);
            left =
                rw (add-one k, take-suc-set kinds k t.kind n, v, a)
                (append_assoc (take k kinds) (kind_of ws (item_bytes b s) ∷ []) (map (kind_of ws) (items_from f (drop (length (item_bytes b s)) (b ∷ s)))) ∙ e);
          })

      -- the line is read on
      pub cut-less : {t : Item} → t ≡ item_in ws i (drop i line) → i < t.end
      unfolding item_in
      cut-less {t} y =
          let z : t ≡ item (kind_of ws (item_bytes b (drop (suc i) line))) (i + length (item_bytes b (drop (suc i) line))) = rw open-line at y in
          let w : t.end ≡ i + length (item_bytes b (drop (suc i) line)) = rw z in
          omega (arith, w, item-first b (drop (suc i) line))
