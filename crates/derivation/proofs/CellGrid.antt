-- The cells of a table as one list: the places of a grammar, and two positions of a note.
use mathlib.Core.Path.{◌≡◌, refl, ap, ap₂, ◌∙◌}
use mathlib.Core.List.Memᴰ
use mathlib.Core.List.{List, [], ◌∷◌, ◌++◌, Memᴰ}
use Prim.Native.Nat.{ℕ, suc, ◌*◌, ◌≤◌, ◌<◌}
use native.Mathlib.Nat.{add_comm, suc-mul}
use native.Mathlib.Omega.{arith}
use native.Mathlib.Decide.{dec_le, dec_lt}
use lib.ListN.{length, length-append}
use Rattle.base.specs.Rounds.{up_from}
use Rattle.base.proofs.Lists.{up_from-in, length-up_from}
use Rattle.derivation.specs.Cells.{Cell, cell}

-- ---- every pair from two lists
module _ {A B C : Type 0} (f : A → B → C) where
  row : A → List B → List C
  row a [] = []
  row a (b ∷ bs) = f a b ∷ row a bs

  grid : List A → List B → List C
  grid [] bs = []
  grid (a ∷ l) bs = row a bs ++ grid l bs

  row_in : {a x : A} {b : B} {bs : List B} → a ≡ x → Memᴰ b bs → Memᴰ (f a b) (row x bs)
  unfolding row
  row_in e (Memᴰ.head q) = Memᴰ.head (ap₂ f e q)
  row_in e (Memᴰ.tail m) = Memᴰ.tail (row_in e m)

  grid-in : {a : A} {b : B} {l : List A} {bs : List B} → Memᴰ a l → Memᴰ b bs → Memᴰ (f a b) (grid l bs)
  unfolding grid
  grid-in {bs = bs} (Memᴰ.head {xs = xs} e) n = Memᴰ.append_left (grid xs bs) (row_in e n)
  grid-in {bs = bs} (Memᴰ.tail {x = x} m) n = Memᴰ.append_right (row x bs) (grid-in m n)

  length-row : (a : A) (bs : List B) → length (row a bs) ≡ length bs
  unfolding row
  length-row a [] = refl
  length-row a (b ∷ bs) = ap suc (length-row a bs)

  length-grid : (l : List A) (bs : List B) → length (grid l bs) ≡ length l * length bs
  unfolding grid
  length-grid [] bs = omega arith
  length-grid (a ∷ l) bs = length-append (row a bs) (grid l bs) ∙ rw (length-row a bs, length-grid l bs, suc-mul, add_comm)

-- ---- the cells of P places over a note of n tokens
pairs : ℕ → List (ℕ × ℕ)
pairs n = grid (λ (i j : ℕ). (i, j)) (up_from 0 (suc n)) (up_from 0 (suc n))

pub cells : ℕ → ℕ → List Cell
cells P n = grid (λ p (q : ℕ × ℕ). cell p q.0 q.1) (up_from 0 P) (pairs n)

pub length-cells : (P n : ℕ) → length (cells P n) ≡ P * (suc n * suc n)
unfolding cells pairs
length-cells P n = rw (length-grid, length-grid, length-up_from, length-up_from)

-- a cell of the table
pub record Inside (P n : ℕ) (c : Cell) : Type 0 where
  pub place_in : c.place < P
  pub from_in : c.from ≤ n
  pub upto-in : c.upto ≤ n

pub cells_in : (P n : ℕ) (c : Cell) → Inside P n c → Memᴰ c (cells P n)
unfolding cells pairs
cells_in P n c h =
    grid-in (λ p (q : ℕ × ℕ). cell p q.0 q.1) (up_from-in P 0 c.place (omega arith) (omega (arith, h.place_in)))
    (grid-in (λ (i j : ℕ). (i, j)) (up_from-in (suc n) 0 c.from (omega arith) (omega (arith, h.from_in)))
    (up_from-in (suc n) 0 c.upto (omega arith) (omega (arith, h.upto-in))))

pub inside? : (P n : ℕ) (c : Cell) → Dec (Inside P n c)
inside? P n c = go (dec_lt c.place P) (dec_le c.from n) (dec_le c.upto n)
  where
    go : Dec (c.place < P) → Dec (c.from ≤ n) → Dec (c.upto ≤ n) → Dec (Inside P n c)
    go (yes p) (yes i) (yes j) = yes (record { place_in = p; from_in = i; upto-in = j })
    go (yes p) (yes i) (no j) = no (λ h. j h.upto-in)
    go (yes p) (no i) j = no (λ h. i h.from_in)
    go (no p) i j = no (λ h. p h.place_in)
