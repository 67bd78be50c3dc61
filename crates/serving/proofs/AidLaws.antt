-- What a reading has worked out to choose by: the two words of its tally, and a search that begins in the words of the cells.
use mathlib.Core.Path.{◌≡◌, refl, ◌∙◌}
use mathlib.Core.Bool.{Bool, false, not}
use mathlib.Core.List.{List, [], ◌∷◌}
use Prim.Native.Nat.{ℕ, suc, ◌+◌, ◌*◌, ◌/◌, ◌≤◌, ◌<◌, min}
use native.Mathlib.Nat.{mul-le-mul, mul_comm}
use native.Mathlib.Omega.{arith}
use lib.Dec.{T, leb, leb→le}
use lib.ListN.{length, set, replicate, length-set}
use lib.Seq.{get_or-set_same}
use borrow.Author.Tests.{eq-eqb, ne_eqb}
use Rattle.base.proofs.Booleans.{true→T, false→¬T, passed}
use Rattle.grammar.specs.inside.Tables.{grammar_in, nonterminals_in}
use Rattle.positions.specs.inside.Positions.{set_words}
use Rattle.derivation.specs.Runs.{marked}
use Rattle.first_follow.specs.inside.Words.{mask_words, masks_in}
use Rattle.filtering.specs.inside.Settling.{Sure}
use Rattle.filtering.proofs.SettleLaws.{sure-none}
use Rattle.cells.specs.inside.Chart.{Lent}
use Rattle.machine.specs.inside.Space.{ground}
use Rattle.search.specs.inside.Words.{done_in, Kept}
use Rattle.search.specs.inside.Searching.{state_of, Given, Roomy, Searching, Sized}
use Rattle.search.specs.declared.words.Size.{Size}
use Rattle.serving.specs.inside.Aids.{tally_words, budget_in, tally_of, units_of, Fits, Stage, sets_of, Told, MayBegin, Begun}
use Rattle.serving.proofs.StageLaws.{search-behind}

-- ---- the tally
pub units_small : (P n : ℕ) → P ≤ 255 → n ≤ 128 → (8 + P / 12) * (n + 1) ≤ 3741
units_small P n l k =
    let h : 8 + P / 12 ≤ 29 = omega arith in
    let o : n + 1 ≤ 129 = omega arith in
    let m : (8 + P / 12) * (n + 1) ≤ 29 * 129 = mul-le-mul h o in omega arith

pub units-few : {P n units left : ℕ} (most : ℕ) → P ≤ 255 → n ≤ 128 → units ≡ units_of P n → left ≡ min units most → left < 65535
units-few {P} {n} most l k e m = omega (arith, units_small P n l k)

-- both words are written
pub tally-put : (tally : List ℕ) {x y b h : ℕ} → length tally ≡ tally_words → x ≡ b → y ≡ h → set (set tally 0 x) 1 y ≡ tally_of b h
tally-put [] e p q = absurd (omega arith)
tally-put (u ∷ []) e p q = absurd (omega arith)
tally-put (u ∷ v ∷ []) e p q = rw (p, q)
tally-put (u ∷ v ∷ z ∷ l) e p q = absurd (omega arith)

module _ (tally : List ℕ) (known : ℕ) where
  pub sets-stand : budget_in tally ≡ 1 → known ≡ sets_of tally known
  unfolding sets_of
  sets-stand e = rw (eq-eqb (budget_in tally) 1 e)

  pub sets-none : ¬ (budget_in tally ≡ 1) → 0 ≡ sets_of tally known
  unfolding sets_of
  sets-none n = rw (ne_eqb (budget_in tally) 1 n)

-- ---- the words of the search are among those of the cells
pub search-lent : (t w : List ℕ) {ws : List ℕ} → Fits t → Lent (grammar_in t).size (length w) ws → Roomy t w ws
search-lent t w f l = omega (arith, search-behind t w f, l.room, mul_comm (grammar_in t).size (suc (length w)))

-- the sets of nonterminals that are cleared are among them
marks-room : (t w : List ℕ) → Fits t → suc (length w) ≤ ground t w
marks-room t w f =
    let m : suc (length w) * 1 ≤ suc (length w) * suc (7 * nonterminals_in t) = mul-le-mul (omega arith) (omega arith) in
    omega (arith, search-behind t w f)

-- ---- a search begins
-- whatever was worked out, it may
pub may-begin : {t w ms tally ws : List ℕ} {known : ℕ} → Told t w tally ws → Stage t w ms tally ws known → MayBegin t w ms tally ws
may-begin {t} {w} {ms} {tally} {ws} {known} x s = record { told = x; blank = blank s }
  where
    blank : Stage t w ms tally ws known → budget_in tally ≡ 0 → ms ≡ replicate mask_words 0
    blank (Stage.nothing z b k) e = b
    blank (Stage.search l f h m) e = absurd (omega arith)
    blank (Stage.table z h) e = absurd (omega arith)

module _ {t w ms tally ws : List ℕ} (x : MayBegin t w ms tally ws) where
  -- one had begun
  pub begun-same : ¬ (budget_in tally ≡ 0) → Begun t w ms tally ws ms tally ws
  begun-same n =
      record {
        same = λ _. (refl, refl, refl);
        tallied = x.told.tallied;
        begun = n;
        fresh = λ e _. absurd (n e);
        long = refl;
        behind = λ j l. refl;
      }

  -- there are not enough words for one
  pub begun-out : budget_in tally ≡ 0 → Begun t w ms tally ws ms (set tally 0 1) ws
  begun-out z =
      let long = x.told.tallied.long in
      let one : budget_in (set tally 0 1) ≡ 1 = get_or-set_same tally 0 1 0 (omega arith) in
      record {
        same = λ n. absurd (n z);
        tallied = record { long = length-set tally 0 1 ∙ long; few = omega arith };
        begun = λ e. omega arith;
        fresh = λ _ l. absurd (omega arith);
        long = refl;
        behind = λ j l. refl;
      }

  -- nothing is worked out yet
  module _ (z : budget_in tally ≡ 0) {ms' after : List ℕ} (f : Fits t)
      (given : Given t w ms') {s : Size} (y : Sized t w s) (k : Kept (suc s.n) ws after)
      (none : (a i : ℕ) → done_in s.nonterminals s.n after a i ≡ false) where
    undone : (a i : ℕ) → ¬ T ((state_of t w after).done a i)
    undone a i = let e : done_in (nonterminals_in t) (length w) after a i ≡ false = rw (y.names, y.tokens) at (none a i) in false→¬T _ e

    sure : Sure (grammar_in t) (masks_in ms') (marked w) (state_of t w after) 0
    sure = sure-none (state_of t w after) undone

    searching : Searching t w ms' after
    searching =
        record {
          given = given;
          room = omega (arith, k.long, search-lent t w f x.told.lent);
          holds = sure.holds;
        }

    begun-clear : (left : ℕ) → left < 65535 → Begun t w ms tally ws ms' (tally_of (suc left) 0) after
    begun-clear left l =
        record {
          same = λ n. absurd (n z);
          tallied = record { long = refl; few = omega arith };
          begun = λ e. omega arith;
          fresh = λ _ _. (f, searching, record { cover = sure.cover; came = sure.came });
          long = k.long;
          behind = λ j m. k.word j (omega (arith, marks-room t w f, y.tokens));
        }

    pub begun_fresh : {P units left : ℕ} (most : ℕ) {tally' : List ℕ} → P ≤ 255 → units ≡ units_of P (length w) → left ≡ min units most
        → tally' ≡ tally_of (suc left) (min 0 (length w + 1)) → Begun t w ms tally ws ms' tally' after
    begun_fresh {left = left} most l e f q =
        let m : min 0 (length w + 1) ≡ 0 = omega arith in
        rw (q, m) (begun-clear left (units-few most l x.told.lent.short e f))

-- the test whether there are enough
pub fits-is : (t : List ℕ) {r : Bool} → r ≡ leb (suc (7 * nonterminals_in t)) (set_words * (grammar_in t).size) → not r ≡ false → Fits t
fits-is t e n = leb→le (suc (7 * nonterminals_in t)) (set_words * (grammar_in t).size) (true→T _ (passed e n))
