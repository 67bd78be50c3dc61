-- The scope's cache of G1, as the reading itself leaves it: with six slots it holds six states after note 1 2, and six still after 1 2 2. Which states
-- they are is the table of `lookahead`'s Worked.
use Rattle.std.specs.Prelude.{◌≡◌, List, [], ◌∷◌, ℕ}
use Rattle.derivation.specs.Cases.{g1}
use Rattle.words.specs.Layout.{slots}
use Rattle.words.specs.Words.{held}
use Rattle.words.specs.Begin.{begin_words}
use Rattle.adaptive.specs.Calls.{Call, quick}

-- the length of a cache with six slots
abbrev pub six_long : ℕ
six_long = 3968

-- the notes
abbrev pub note12 : List ℕ
note12 = 1 ∷ 2 ∷ []

abbrev pub note122 : List ℕ
note122 = 1 ∷ 2 ∷ 2 ∷ []

-- two calls, the first over a begun cache, the second over the words that the first left
pub record SixStates (j k : Call) : Type 0 where
  pub six-slots : slots six_long ≡ 6
  pub after_one : held (quick g1 (begin_words g1 six_long) j).words ≡ 6
  pub after_both : held (quick g1 (quick g1 (begin_words g1 six_long) j).words k).words ≡ 6
