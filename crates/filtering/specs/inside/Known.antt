-- What a search for ends holds, and what it answers when a pair is asked.
use Rattle.std.specs.Prelude.{◌≡◌, ◌↔◌, Bool, false, cond, List, ℕ, T, eqb}
use Rattle.grammar.specs.Grammar.{Grammar}
use Rattle.first_follow.specs.inside.Masks.{Masks}
use Rattle.filtering.specs.inside.Beginnings.{token_at}
use Rattle.filtering.specs.inside.Filtered.{PairEnds}
use Rattle.filtering.specs.inside.Tags.{Tag, no_end, one_end, ends, Tagged}
use Rattle.filtering.specs.inside.Cover.{Asked}

-- pairs that are worked out, and their tags
pub record State : Type 0 where
  pub done : ℕ → ℕ → Bool
  pub tag : ℕ → ℕ → Tag

-- every tag of a pair that is worked out is right: all that answers rest on
abbrev pub Holds : Grammar → Masks → List ℕ → State → Type 0
Holds g M w s = (a i : ℕ) → T (s.done a i) → Tagged g M w a i (s.tag a i)

-- ---- answers
-- not worked out yet, no end, one end, or these ends
pub data Reply : Type 0 where
  unknown : Reply
  nowhere : Reply
  only : ℕ → Reply
  among : (ℕ → Bool) → Reply

-- a tag as a reply
abbrev pub told : Tag → Reply
told no_end = nowhere
told (one_end m b more) = only m
told (ends s) = among s

-- a pair whose nonterminal does not start with the token there is known without work: it derives the empty row or nothing
unfoldable pub known : Masks → List ℕ → State → ℕ → ℕ → Reply
known M w s a i =
    let here = cond (M.empty (token_at w i) a) (only i) nowhere in
    let there = cond (s.done a i) (told (s.tag a i)) unknown in
    cond (M.starts (token_at w i) a) there here

-- a position is among the ends that a reply tells
abbrev pub tells : Reply → ℕ → Bool
tells unknown n = false
tells nowhere n = false
tells (only m) n = eqb n m
tells (among s) n = s n

-- what a reply says of a pair
pub data Replied (g : Grammar) (M : Masks) (w : List ℕ) (done : ℕ → ℕ → Bool) (a i : ℕ) : Reply → Type 0 where
  asks : ¬ T (done a i) → T (M.starts (token_at w i) a) → Replied g M w done a i unknown
  none : Asked M w done a i → ((m : ℕ) → ¬ PairEnds g M w a i m) → Replied g M w done a i nowhere
  one : {n : ℕ} → Asked M w done a i → ((m : ℕ) → PairEnds g M w a i m ↔ (m ≡ n)) → Replied g M w done a i (only n)
  some : {s : ℕ → Bool} → Asked M w done a i → ((m : ℕ) → PairEnds g M w a i m ↔ T (s m)) → Replied g M w done a i (among s)
