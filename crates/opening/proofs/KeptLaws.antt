-- The stack of open frames behind the words of the search, as words change: return places stay, and what was asked of the words before holds of those after.
use mathlib.Core.Path.{◌≡◌, refl, ◌∙◌}
use mathlib.Core.List.{List}
use Prim.Native.Nat.{ℕ, zero, suc, ◌+◌, ◌*◌}
use native.Mathlib.Omega.{arith}
use lib.ListN.{length, get_or}
use Rattle.grammar.specs.inside.Tables.{nonterminals_in}
use Rattle.derivation.specs.inside.Frames.{frame_words, returns_of}
use Rattle.search.specs.declared.words.Size.{Size}
use Rattle.search.specs.inside.Words.{search_words, Kept}
use Rattle.search.specs.inside.Searching.{Searching, Holds, MayAsk}
use Rattle.opening.specs.inside.Stacks.{Stacked, StackKept}

-- ---- the words of the search
pub same-words : (from : ℕ) (ws : List ℕ) → Kept from ws ws
same-words from ws = record { long = refl; word = λ j l. refl }

module _ {t w ms ws after : List ℕ} where
  pub searching-on : Searching t w ms ws → length after ≡ length ws → Holds t w ms after → Searching t w ms after
  searching-on h e y = record { given = h.given; room = omega (arith, h.room); holds = y }

  pub asks-on : {s : Size} {a i : ℕ} → MayAsk t w ms ws s a i → Kept (search_words (nonterminals_in t) (length w)) ws after → Holds t w ms after
      → MayAsk t w ms after s a i
  asks-on h k y = record { searching = searching-on h.searching k.long y; sized = h.sized; pair = h.pair }

-- ---- the stack
-- words with the same return places hold the same stack
pub returns-kept : (ws after : List ℕ) (base d : ℕ) → ((k : ℕ) → get_or after (base + frame_words * k) 0 ≡ get_or ws (base + frame_words * k) 0)
    → returns_of after base d ≡ returns_of ws base d
unfolding returns_of
returns-kept ws after base zero h = refl
returns-kept ws after base (suc k) h = let a = h k in let b = returns-kept ws after base k h in cc

module _ {t w ms ws : List ℕ} {base known : ℕ} where
  pub stack-begins : {s : Size} {d : ℕ} → Stacked t w ms ws s base d known → StackKept t w ms ws ws base known
  stack-begins h = record { long = refl; places = λ k. refl; holds = h.searching.holds; marks = h.marks }

  pub stack-then : {mid after : List ℕ} → StackKept t w ms ws mid base known → StackKept t w ms mid after base known → StackKept t w ms ws after base known
  stack-then h k = record { long = k.long ∙ h.long; places = λ j. k.places j ∙ h.places j; holds = k.holds; marks = k.marks }

  pub stack-on : {after : List ℕ} {s : Size} {d : ℕ} → Stacked t w ms ws s base d known → StackKept t w ms ws after base known
      → Stacked t w ms after s base d known
  stack-on h k =
      record {
        searching = searching-on h.searching k.long k.holds;
        sized = h.sized;
        behind = h.behind;
        room = omega (arith, h.room, k.long);
        marks = k.marks;
      }
