-- What a reading has worked out to choose by: what each stage says, and that it says the same of words that agree where it looks.
use mathlib.Core.Path.{◌≡◌}
use mathlib.Core.Logic.{inl, inr}
use mathlib.Core.List.{List}
use Prim.Native.Nat.{ℕ, zero, suc, ◌+◌, ◌*◌, ◌≤◌, ◌<◌, min}
use native.Mathlib.Nat.{mul-le-mul_right}
use native.Mathlib.Omega.{arith}
use lib.ListN.{length, get_or, replicate}
use Rattle.grammar.specs.Grammar.{Grammar}
use Rattle.grammar.specs.inside.Tables.{grammar_in, nonterminals_in}
use Rattle.positions.specs.inside.Positions.{set_words}
use Rattle.derivation.specs.Runs.{marked}
use Rattle.derivation.specs.inside.Frames.{frame_words, returns_of}
use Rattle.derivation.proofs.FrameWords.{returns-same}
use Rattle.derivation.proofs.MarkedCells.{length_marked}
use Rattle.derivation.proofs.ReachLaws.{reach-in}
use Rattle.first_follow.specs.inside.Words.{mask_words}
use Rattle.filtering.specs.inside.Settling.{Came}
use Rattle.cells.specs.inside.Chart.{Charted}
use Rattle.machine.specs.inside.Frames.{Good}
use Rattle.machine.specs.inside.Space.{ground}
use Rattle.machine.specs.inside.Waits.{Waits, begins, called}
use Rattle.search.specs.inside.Words.{search_words}
use Rattle.search.specs.inside.Searching.{Searching}
use Rattle.search.specs.inside.Trials.{CameSoFar}
use Rattle.search.proofs.WordLaws.{Agree, waits_end, holds_same, covered_same}
use Rattle.opening.specs.inside.Marks.{Marks}
use Rattle.opening.proofs.KeptLaws.{searching-on}
use Rattle.serving.specs.inside.Aids.{budget_in, Fits, Stage, nothing, search, table}

-- ---- what each stage says
module _ {t w ms tally ws : List ℕ} {known : ℕ} where
  pub stage-none : budget_in tally ≡ 0 → Stage t w ms tally ws known → (ms ≡ replicate mask_words 0) × (known ≡ 0)
  stage-none l (nothing e m z) = (m, z)
  stage-none l (search n f s m) = absurd (omega arith)
  stage-none l (table e c) = absurd (omega arith)

  pub stage-search : 1 < budget_in tally → Stage t w ms tally ws known
      → Fits t × Searching t w ms ws × Marks (grammar_in t) (marked w) ws (ground t w) known
  stage-search l (nothing e m z) = absurd (omega arith)
  stage-search l (search n f s m) = (f, s, m)
  stage-search l (table e c) = absurd (omega arith)

  pub stage-table : budget_in tally ≡ 1 → Stage t w ms tally ws known → 0 < known → Charted t w ws
  stage-table l (nothing e m z) = absurd (omega arith)
  stage-table l (search n f s m) = absurd (omega arith)
  stage-table l (table e c) = c

-- ---- no set is asked
pub good_none : (g : Grammar) (w ws : List ℕ) (base : ℕ) (K : ℕ → Type 0) (d p i : ℕ) → ((k : ℕ) → ¬ K k) → Good g w ws base K d p i
unfolding Good
good_none g w ws base K zero p i n = tt
good_none g w ws base K (suc d) p i n = λ m x. (λ y. absurd (n d y), good_none g w ws base K d (get_or ws (base + frame_words * d) 0) m n)

-- so the return places are enough
pub waits-bare : {t w ws us : List ℕ} {K : ℕ → Type 0} (L : ℕ → Type 0) {d q a i : ℕ} → ((k : ℕ) → ¬ L k)
    → returns_of us (ground t w) d ≡ returns_of ws (ground t w) d → Waits t w ws K d q a i → Waits t w us L d q a i
waits-bare L n same (begins z y x v) = begins z y x v
waits-bare {t} {w} {us = us} L {d} {i = i} n same (called p y e held good) =
    called p y e (rw same held) (good_none (grammar_in t) (marked w) us (ground t w) L d p i n)

-- ---- the words of the search stand before the frames
pub search-behind : (t w : List ℕ) → Fits t → search_words (nonterminals_in t) (length w) ≤ ground t w
search-behind t w h =
    let z : suc (7 * nonterminals_in t) * suc (length w) ≤ (set_words * (grammar_in t).size) * suc (length w) = mul-le-mul_right (suc (length w)) h in
    omega arith

module _ (t w ws us : List ℕ) (same : (j : ℕ) → j < search_words (nonterminals_in t) (length w) → get_or us j 0 ≡ get_or ws j 0) where
  agree : Agree (nonterminals_in t) (length w) ws us
  agree = record { word = λ j l. same j (omega (arith, waits_end (nonterminals_in t) (length w))) }

  pub searching-same : {ms : List ℕ} → length us ≡ length ws → Searching t w ms ws → Searching t w ms us
  searching-same {ms} long h = searching-on h long (holds_same t w ms agree h.holds)

  pub came_same : {ms : List ℕ} {high : ℕ} → CameSoFar t w ms ws high → CameSoFar t w ms us high
  came_same {ms} h = record { cover = covered_same t w ms agree h.cover; came = h.came }

-- no position behind the end mark is come to, so that what is kept of how far is all
pub came-kept : {g : Grammar} (w : List ℕ) {high : ℕ} → Came g (marked w) high → min high (length w + 1) ≡ high
came-kept w (inl e) = omega arith
came-kept w (inr (p, x)) = omega (arith, reach-in x, length_marked w)

-- ---- marks stay where the words of their frames do
pub marks-same : (g : Grammar) (w ws us : List ℕ) (base known : ℕ)
    → ((j : ℕ) → base ≤ j → j < base + frame_words * known → get_or us j 0 ≡ get_or ws j 0) → Marks g w ws base known → Marks g w us base known
marks-same g w ws us base known h m k l =
    rw (returns-same ws us base (suc k) (λ j a b. h j a (omega arith)), h (base + frame_words * k + 1) (omega arith) (omega arith)) (m k l)
