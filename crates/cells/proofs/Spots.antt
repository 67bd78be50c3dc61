-- Where cells stand in the working space: in it, and apart from each other; what putting one changes.
use mathlib.Core.Path.{◌≡◌, refl, ◌∙◌}
use mathlib.Core.Logic.{◌⊎◌, inl, inr}
use mathlib.Core.List.{List}
use Prim.Native.Nat.{ℕ, suc, ◌+◌, ◌*◌, ◌≤◌, ◌<◌}
use native.Mathlib.Nat.{mul-le-mul_right, suc-mul, mul_comm}
use native.Mathlib.Omega.{arith}
use native.Mathlib.Decide.{dec_lt}
use lib.ListN.{length}
use Rattle.positions.specs.inside.Positions.{position_count, set_words, member}
use Rattle.positions.specs.inside.Words.{set_at, put_at}
use Rattle.positions.proofs.WordLaws.{member-set, put_word, put_same, put_other}
use Rattle.cells.specs.inside.Chart.{spot, cells_end, cell_has, Lent, KeptBehind}

-- a cell of the note and the grammar is among the cells, and these are in the space
pub spot-below : (P n p i : ℕ) → p < P → i ≤ n → spot P p i + set_words ≤ cells_end P n
spot-below P n p i l k = let m : i * P ≤ n * P = mul-le-mul_right P k in omega (arith, suc-mul n P)

pub spot_in : (P n p i : ℕ) (ws : List ℕ) → Lent P n ws → p < P → i ≤ n → spot P p i + set_words ≤ length ws
spot_in P n p i ws h l k = omega (arith, spot-below P n p i l k, h.room, mul_comm P (suc n))

pub lent-kept : {P n : ℕ} {ws us : List ℕ} → length us ≡ length ws → Lent P n ws → Lent P n us
lent-kept e h = record { short = h.short; room = omega (arith, h.room) }

pub lent-sized : {P Q n : ℕ} {ws : List ℕ} → P ≡ Q → Lent Q n ws → Lent P n ws
lent-sized e h = rw e h

-- what stands behind the cells: nothing is changed, a cell is put, one change after another
pub behind-none : {P n : ℕ} {ws : List ℕ} → KeptBehind P n ws ws
behind-none = record { word = λ j l. refl }

pub behind-put : (P n p i : ℕ) {ws us vs : List ℕ} (s : List ℕ) → KeptBehind P n ws us → p < P → i ≤ n → vs ≡ put_at us (spot P p i) s
    → KeptBehind P n ws vs
behind-put P n p i {ws} {us} s h l k e =
    record { word = λ j m. rw e (put_word us (spot P p i) j s (inr (omega (arith, spot-below P n p i l k))) ∙ h.word j m) }

pub behind-on : {P n : ℕ} {ws us vs : List ℕ} → KeptBehind P n ws us → KeptBehind P n us vs → KeptBehind P n ws vs
behind-on h k = record { word = λ j l. k.word j l ∙ h.word j l }

-- a cell that is read
pub cell-member : (P : ℕ) (ws : List ℕ) (p i j : ℕ) {s : List ℕ} → s ≡ set_at ws (spot P p i) → j < position_count → member s j
    ≡ cell_has P ws p i j
unfolding cell_has
cell-member P ws p i j e l = rw e (member-set ws (spot P p i) j l)

-- the cells by another name of the number of places
pub sized : {P Q : ℕ} → P ≡ Q → (ws : List ℕ) (p i j : ℕ) → cell_has Q ws p i j ≡ cell_has P ws p i j
sized e ws p i j = rw e

-- a cell that is put at (p, i)
module _ (P : ℕ) (ws : List ℕ) (p i : ℕ) (s : List ℕ) (j : ℕ) (l : j < position_count) where
  pub put-here : spot P p i + set_words ≤ length ws → cell_has P (put_at ws (spot P p i) s) p i j ≡ member s j
  unfolding cell_has
  put-here h = put_same ws (spot P p i) s j h l

  pub put-beside : (q : ℕ) → (q ≡ p → ⊥) → cell_has P (put_at ws (spot P p i) s) q i j ≡ cell_has P ws q i j
  unfolding cell_has
  put-beside q n = put_other ws (spot P p i) (spot P q i) s j l (apart (dec_lt q p))
    where
      apart : Dec (q < p) → (spot P q i + set_words ≤ spot P p i) ⊎ (spot P p i + set_words ≤ spot P q i)
      apart (yes h) = inl (omega arith)
      apart (no h) = inr (omega arith)

  pub put-before : (q k : ℕ) → p < P → i < k → cell_has P (put_at ws (spot P p i) s) q k j ≡ cell_has P ws q k j
  unfolding cell_has
  put-before q k h m = put_other ws (spot P p i) (spot P q k) s j l (inr below)
    where
      below : spot P p i + set_words ≤ spot P q k
      below = let r : suc i * P ≤ k * P = mul-le-mul_right P m in omega (arith, suc-mul i P)
