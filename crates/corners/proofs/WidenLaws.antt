-- Rows of what stands first, widened one after the other to where one move leads, the last first, and put into the tables; and the set of those from which
-- moves end, as it grows.
use mathlib.Core.Path.{◌≡◌, refl, sym, ◌∙◌}
use mathlib.Core.Logic.{◌⊎◌, inl, inr}
use mathlib.Core.Bool.{Bool, true}
use mathlib.Core.List.{List}
use Prim.Native.Nat.{ℕ, suc, ◌-◌, ◌^◌, ◌≤◌, ◌<◌}
use native.Mathlib.Omega.{arith}
use lib.Bits.{bit_and, bit_xor}
use lib.Dec.{T, eqb, eqb→eq}
use lib.ListN.{length, get_or, set, length-set}
use lib.Seq.{get_or-set_same, get_or-set_other}
use Rattle.base.specs.Bits.{word_bits, test_bit, set_bit, is_subset}
use Rattle.base.proofs.Booleans.{or-T, true→T}
use Rattle.base.proofs.Bits.{same?, test-set}
use Rattle.grammar.specs.Limits.{max_nonterminals}
use Rattle.grammar.specs.inside.Tables.{grammar_in, nonterminals_in, SameTables, Bare, corner_row, with_corners}
use Rattle.grammar.proofs.CornerLaws.{put-kept, put-here, put_other, kept-none, kept_on}
use Rattle.corners.specs.inside.Steps.{MovesFrom, MoveRows, Widening, Widened}
use Rattle.corners.specs.inside.Ending.{Settled}
use Rattle.corners.proofs.FirstLaws.{widen-same, row_first, none-met}
use Rattle.corners.proofs.EndingLaws.{unled-empty, settled-empty, settled-frame, settled-join}
use Rattle.corners.proofs.Warshall.{corners-are}

-- the rows from a on say where one move leads, and tables t hold them; those below a are as they came, and the tables hold none of them yet; moves end from
-- the members of x, and of those below a only such are members that came with an empty row
pub record Widens (t₀ : List ℕ) (nullable : ℕ) (rows₀ : List ℕ) (a x : ℕ) (rows t : List ℕ) : Type 0 where
  pub long : length rows ≡ length rows₀
  pub moved : (b : ℕ) → a ≤ b → b < nonterminals_in t₀ → MovesFrom nullable (grammar_in t₀) b (get_or rows b 0)
  pub ahead : (b : ℕ) → b < a → get_or rows b 0 ≡ get_or rows₀ b 0
  pub kept : SameTables t₀ t
  pub same : (b : ℕ) → a ≤ b → b < nonterminals_in t₀ → corner_row t b ≡ get_or rows b 0
  pub bare : (b : ℕ) → b < a → corner_row t b ≡ 0
  pub settled : Settled rows x
  pub late : (b : ℕ) → b < a → T (test_bit x b) → get_or rows₀ b 0 ≡ 0

module _ (t₀ : List ℕ) (nullable led : ℕ) (rows₀ : List ℕ) (w : Widening t₀ nullable led rows₀) where
  -- nothing is widened, and x holds those outside `led`
  pub widens-begin : {n : ℕ} → n ≡ nonterminals_in t₀ → {all turned : ℕ} → all ≡ 2 ^ n - 1 → turned ≡ bit_xor led (2 ^ word_bits - 1)
      → Widens t₀ nullable rows₀ n (bit_and all turned) rows₀ t₀
  unfolding Bare
  widens-begin {n} e {all} {turned} p q =
      record {
        long = refl;
        moved = λ b k l. absurd (omega arith);
        ahead = λ b k. refl;
        kept = kept-none w.fits;
        same = λ b k l. absurd (omega arith);
        bare = λ b k. w.bare b (omega (arith, w.fits.few));
        settled = settled-empty rows₀ (bit_and all turned) empty;
        late = λ b k. empty b;
      }
    where
      empty : (b : ℕ) → T (test_bit (bit_and all turned) b) → get_or rows₀ b 0 ≡ 0
      empty = unled-empty rows₀ (nonterminals_in t₀) led (omega (arith, w.fits.few)) w.led-is (rw e at p) q

  -- every row is widened
  pub widened-all : (a x : ℕ) (rows t : List ℕ) → Widens t₀ nullable rows₀ a x rows t → a ≡ 0 → Widened t₀ rows t × Settled rows x
  unfolding MoveRows
  widened-all a x rows t i e = (
    record {
      corners = corners-are nullable (grammar_in t₀) (nonterminals_in t₀) rows w.vanish (λ b l. i.moved b (omega arith) l);
      stored = record { kept = i.kept; same = λ b l. i.same b (omega arith) l };
    },
    i.settled,
  )

  -- the turn of row a
  module _ (a from x : ℕ) (rows t : List ℕ) (i : Widens t₀ nullable rows₀ from x rows t) (turn : from ≡ suc a) (l : a < nonterminals_in t₀) where
    first : MovesFrom 0 (grammar_in t₀) a (get_or rows a 0)
    first = row_first (grammar_in t₀) (nonterminals_in t₀) a rows₀ w.firsts l (i.ahead a (omega arith))

    -- it still says what stands first
    pub first-still : MovesFrom 0 (grammar_in t) a (get_or rows a 0)
    first-still = let says = i.kept.says in rw says first

    above : (b : ℕ) → a ≤ b → (b ≡ a → ⊥) → from ≤ b
    above b k q = omega arith

    -- it is empty, so it stays, and the tables hold it already
    pub widens-none : get_or rows a 0 ≡ 0 → Widens t₀ nullable rows₀ a x rows t
    widens-none z =
        record {
          long = i.long;
          moved = λ b k m. moved b k m (same? b a);
          ahead = λ b k. i.ahead b (omega arith);
          kept = i.kept;
          same = λ b k m. same b k m (same? b a);
          bare = λ b k. i.bare b (omega arith);
          settled = i.settled;
          late = λ b k. i.late b (omega arith);
        }
      where
        moved : (b : ℕ) → a ≤ b → b < nonterminals_in t₀ → (b ≡ a) ⊎ (b ≡ a → ⊥) → MovesFrom nullable (grammar_in t₀) b (get_or rows b 0)
        moved b k m (inl q) = rw q (widen-same (grammar_in t₀) a nullable (get_or rows a 0) first (none-met nullable z))
        moved b k m (inr q) = i.moved b (above b k q) m

        same : (b : ℕ) → a ≤ b → b < nonterminals_in t₀ → (b ≡ a) ⊎ (b ≡ a → ⊥) → corner_row t b ≡ get_or rows b 0
        same b k m (inl q) = rw q (i.bare a (omega arith) ∙ sym z)
        same b k m (inr q) = i.same b (above b k q) m

    -- it is not, so a is no member yet, and `row` takes its place
    module _ (full : get_or rows a 0 ≡ 0 → ⊥) (row : ℕ) (m : MovesFrom nullable (grammar_in t) a row) {t' : List ℕ} (e : t' ≡ with_corners t a row) where
      inside : a < length rows
      inside = omega (arith, i.long, w.long, w.fits.few)

      named : a < max_nonterminals
      named = omega (arith, w.fits.few)

      outside : T (test_bit x a) → ⊥
      outside s = full (i.ahead a (omega arith) ∙ i.late a (omega arith) s)

      row_here : get_or (set rows a row) a 0 ≡ row
      row_here = get_or-set_same rows a row 0 inside

      row_other : (b : ℕ) → (b ≡ a → ⊥) → get_or (set rows a row) b 0 ≡ get_or rows b 0
      row_other b q = get_or-set_other rows a b row 0 q

      -- the members' rows are not touched
      framed : Settled (set rows a row) x
      framed = settled-frame rows (set rows a row) x (λ b s. row_other b (λ q. outside (rw q at s))) i.settled

      widens-put : (y : ℕ) → Settled (set rows a row) y → ((b : ℕ) → b < a → T (test_bit y b) → get_or rows₀ b 0 ≡ 0)
          → Widens t₀ nullable rows₀ a y (set rows a row) (with_corners t a row)
      widens-put y settled late =
          record {
            long = length-set rows a row ∙ i.long;
            moved = λ b k n. moved b k n (same? b a);
            ahead = λ b k. row_other b (λ q. absurd (omega arith)) ∙ i.ahead b (omega arith);
            kept = kept_on i.kept (put-kept t a row i.kept.fits named);
            same = λ b k n. same b k n (same? b a);
            bare = λ b k. put_other t a row i.kept.fits named b (λ q. absurd (omega arith)) ∙ i.bare b (omega arith);
            settled = settled;
            late = late;
          }
        where
          moved : (b : ℕ) → a ≤ b → b < nonterminals_in t₀ → (b ≡ a) ⊎ (b ≡ a → ⊥) → MovesFrom nullable (grammar_in t₀) b (get_or (set rows a row) b 0)
          moved b k n (inl q) = rw (q, row_here) (rw i.kept.says at m)
          moved b k n (inr q) = rw (row_other b q) (i.moved b (above b k q) n)

          same : (b : ℕ) → a ≤ b → b < nonterminals_in t₀ → (b ≡ a) ⊎ (b ≡ a → ⊥) → corner_row (with_corners t a row) b ≡ get_or (set rows a row) b 0
          same b k n (inl q) = rw (q, put-here t a row i.kept.fits named, row_here)
          same b k n (inr q) = rw (put_other t a row i.kept.fits named b q, row_other b q) (i.same b (above b k q) n)

      pub widens-left : Widens t₀ nullable rows₀ a x (set rows a row) t'
      widens-left = rw e (widens-put x framed (λ b k. i.late b (omega arith)))

      -- its moves lead to members alone, and a joins them
      pub widens-joined : {r : Bool} → r ≡ is_subset row x → r ≡ true → {y : ℕ} → y ≡ set_bit x a → Widens t₀ nullable rows₀ a y (set rows a row) t'
      widens-joined p s q = rw (e, q) (widens-put (set_bit x a) (settled-join (set rows a row) x a framed outside within) late)
        where
          within : T (is_subset (get_or (set rows a row) a 0) x)
          within = rw row_here (true→T (is_subset row x) (sym p ∙ s))

          late : (b : ℕ) → b < a → T (test_bit (set_bit x a) b) → get_or rows₀ b 0 ≡ 0
          late b k u = go (or-T (test_bit x b) (eqb b a) (rw test-set at u))
            where
              go : T (test_bit x b) ⊎ T (eqb b a) → get_or rows₀ b 0 ≡ 0
              go (inl v) = i.late b (omega arith) v
              go (inr v) = let z = eqb→eq b a v in absurd (omega arith)
