-- A pair is worked out, alternative by alternative, and stored: what is known stays right, covered and reached.
use mathlib.Core.Path.{◌≡◌, refl}
use mathlib.Core.Logic.{◌⊎◌, inl, inr}
use mathlib.Core.Option.{some}
use mathlib.Core.Bool.{Bool}
use mathlib.Core.List.{List}
use Prim.Native.Nat.{ℕ, zero, suc, ◌≤◌, max}
use native.Mathlib.Omega.{arith}
use native.Mathlib.Decide.{dec_le}
use lib.Dec.{T}
use lib.ListN.{length}
use Rattle.base.proofs.Booleans.{clash}
use Rattle.grammar.specs.Grammar.{Grammar, alternatives, first}
use Rattle.derivation.proofs.LowestLaws.{first-lt}
use Rattle.first_follow.specs.inside.Masks.{Masks}
use Rattle.filtering.specs.inside.Tags.{Tag, Tagged}
use Rattle.filtering.specs.inside.Cover.{Walks, CoveredFrom, CoveredTo, Covered, Called}
use Rattle.filtering.specs.inside.Known.{State, Holds}
use Rattle.filtering.specs.inside.Settling.{Stored, Came, Sure}
use Rattle.filtering.proofs.WalkLaws.{called-first, walks-reach, covered_more}

-- ---- how far the note comes
-- wherever a walk of a called pair comes, the note comes
pub walks-came : {g : Grammar} {M : Masks} {w : List ℕ} {a i f q k : ℕ} (b : ℕ) → Called g w a i → first g a b ≡ some f → Walks g M w f i q k → Came g w k
walks-came {q = q} b x d v = inr (q, walks-reach (called-first b x d) v)

-- the higher of two positions
pub came-max : {g : Grammar} {w : List ℕ} (h j : ℕ) → Came g w h → Came g w j → Came g w (max h j)
came-max {g} {w} h j x y = go (dec_le j h)
  where
    go : Dec (j ≤ h) → Came g w (max h j)
    go (yes l) = let z : max h j ≡ h = omega arith in rw z x
    go (no l) = let z : max h j ≡ j = omega arith in rw z y

-- ---- the alternatives of a pair, one after another
module _ {g : Grammar} {M : Masks} {w : List ℕ} {done : ℕ → ℕ → Bool} (a i : ℕ) where
  -- no alternative has number 0
  pub covered_none : (high : ℕ) → CoveredTo g M w done high a i 0
  covered_none high zero f l d = clash (cc)
  covered_none high (suc b) f l d = absurd (omega arith)

  pub covered_next : (high high' k : ℕ) → high ≤ high' → ((f : ℕ) → first g a (suc k) ≡ some f → CoveredFrom g M w done high' f i)
      → CoveredTo g M w done high a i k → CoveredTo g M w done high' a i (suc k)
  covered_next high high' k l x cover b f h d = go (dec_le b k)
    where
      go : Dec (b ≤ k) → CoveredFrom g M w done high' f i
      go (yes z) = covered_more (λ c j t. t) l (cover b f z d)
      go (no z) = let q : b ≡ suc k = omega arith in x f (rw q at d)

  pub covered-all : (high k : ℕ) → length (alternatives g a) ≤ k → CoveredTo g M w done high a i k
      → (b f : ℕ) → first g a b ≡ some f → CoveredFrom g M w done high f i
  covered-all high k l cover b f d = let h = first-lt g w a b f d in cover b f (omega arith) d

-- ---- stored pairs
module _ {g : Grammar} {M : Masks} {w : List ℕ} {s after : State} {t : Tag} (a i : ℕ) (st : Stored s a i t after) where
  pub stored-holds : Holds g M w s → Tagged g M w a i t → Holds g M w after
  stored-holds I x b j y = go (st.cases b j y)
    where
      go : ((b ≡ a) × (j ≡ i)) ⊎ (T (s.done b j) × (after.tag b j ≡ s.tag b j)) → Tagged g M w b j (after.tag b j)
      go (inl (p, q)) = rw (p, q, st.new) x
      go (inr (u, q)) = rw q (I b j u)

  pub stored-covered : {high high' : ℕ} → high ≤ high' → Covered g M w s.done high
      → ((b f : ℕ) → first g a b ≡ some f → CoveredFrom g M w s.done high' f i) → Covered g M w after.done high'
  stored-covered {high} {high'} l cover mine b j k f y d = go (st.cases b j y)
    where
      go : ((b ≡ a) × (j ≡ i)) ⊎ (T (s.done b j) × (after.tag b j ≡ s.tag b j)) → CoveredFrom g M w after.done high' f j
      go (inl (p, q)) = rw q (covered_more st.keeps (omega arith) (mine k f (rw p at d)))
      go (inr (u, q)) = covered_more st.keeps l (cover b j k f u d)

-- nothing is worked out yet
pub sure-none : {g : Grammar} {M : Masks} {w : List ℕ} (s : State) → ((a i : ℕ) → ¬ T (s.done a i)) → Sure g M w s 0
sure-none s n = record { holds = λ a i t. absurd (n a i t); cover = λ a i b f t d. absurd (n a i t); came = inl refl }
