-- Masks in words: for each kind of token two sets of nonterminals, that of FIRST and that of FOLLOW; behind them all the set of those that derive the
-- empty row. And masks that are FIRST and FOLLOW exactly.
use Rattle.std.specs.Prelude.{◌≡◌, ◌↔◌, Bool, ◌&&◌, List, ℕ, suc, ◌+◌, ◌*◌, T, leb, get_or}
use Rattle.base.specs.Bits.{test_bit}
use Rattle.grammar.specs.Limits.{max_kinds}
use Rattle.grammar.specs.Grammar.{Grammar}
use Rattle.closures.specs.Closures.{nullable?}
use Rattle.first_follow.specs.FirstFollow.{First, Follow}
use Rattle.first_follow.specs.inside.Masks.{Masks}

-- where the two sets of kind t stand
abbrev pub start_at : ℕ → ℕ
start_at t = 2 * t

abbrev pub follow_at : ℕ → ℕ
follow_at t = 2 * t + 1

-- where the set of those that derive the empty row stands
abbrev pub nullable_at : ℕ
nullable_at = 2 * suc max_kinds

abbrev pub mask_words : ℕ
mask_words = suc nullable_at

-- no nonterminal starts with a token that no grammar has, and none is followed by it
unfoldable pub starts_in : List ℕ → ℕ → ℕ → Bool
starts_in ws t a = leb t max_kinds && test_bit (get_or ws (start_at t) 0) a

unfoldable pub follows_in : List ℕ → ℕ → ℕ → Bool
follows_in ws t a = leb t max_kinds && test_bit (get_or ws (follow_at t) 0) a

-- the masks that words say
abbrev pub masks_in : List ℕ → Masks
masks_in ws = record { starts = starts_in ws; follows = follows_in ws; empty = λ t a. follows_in ws t a && test_bit (get_or ws nullable_at 0) a }

-- FIRST and FOLLOW, and nothing else
pub record Exact (g : Grammar) (M : Masks) : Type 0 where
  pub starts : (t a : ℕ) → T (M.starts t a) ↔ First g t a
  pub follows : (t a : ℕ) → T (M.follows t a) ↔ Follow g t a
  pub empty-is : (t a : ℕ) → M.empty t a ≡ (M.follows t a && nullable? g a)
