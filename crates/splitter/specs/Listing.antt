-- The words of a lent list as they are found; specs/List says what a list is with no test in it.
use Rattle.std.specs.Prelude.{ℕ, zero, suc, Bool, true, false, cond, ◌&&◌, not, List, [], ◌∷◌, ◌++◌, length, drop, eqb, leb}
use Rattle.std.proofs.Math.Option.{Option, none, some}
use Rattle.base.specs.Rounds.{any_of}
use Rattle.splitter.specs.Classes.{letter?, word_byte?}

-- the most words of a list
abbrev pub max_listed : ℕ
max_listed = 66

-- the byte between two words
abbrev pub space : ℕ
space = 32

-- the longest beginning of a row of bytes that passes a test, byte by byte
unfoldable pub prefix : (ℕ → Bool) → List ℕ → List ℕ
prefix p [] = []
prefix p (b ∷ s) = elim (p b) [ true ↦ b ∷ prefix p s | false ↦ [] ]

-- the letters and digits that a row of bytes begins with
unfoldable pub word_run : List ℕ → List ℕ
unfolding prefix word_byte?
word_run s = prefix word_byte? s

-- the same bytes
unfoldable pub same_bytes? : List ℕ → List ℕ → Bool
same_bytes? [] [] = true
same_bytes? [] (c ∷ t) = false
same_bytes? (b ∷ s) [] = false
same_bytes? (b ∷ s) (c ∷ t) = eqb b c && same_bytes? s t

-- a word that is one of those before it
unfoldable pub among? : List (List ℕ) → List ℕ → Bool
unfolding any_of same_bytes?
among? ws u = any_of (λ w. same_bytes? w u) ws

-- a row of bytes begins with a letter
unfoldable pub word_first? : List ℕ → Bool
unfolding letter?
word_first? [] = false
word_first? (b ∷ s) = letter? b

-- a word may stand behind the words ws: it begins with a letter, they are not too many, and it is none of them
unfoldable pub next? : List (List ℕ) → List ℕ → Bool
unfolding word_first? word_run among?
next? ws s = word_first? s && (not (leb max_listed (length ws)) && not (among? ws (word_run s)))

-- what follows a word: the list's end, or a blank and more words
unfoldable pub on_blank : List (List ℕ) → (List ℕ → Option (List (List ℕ))) → List ℕ → Option (List (List ℕ))
on_blank ws more [] = some ws
on_blank ws more (b ∷ s) = cond (eqb b space) (more s) none

-- the words of a list, behind the words ws; k is at least its length
unfoldable pub words_from : ℕ → List (List ℕ) → List ℕ → Option (List (List ℕ))
unfolding next? on_blank word_run
words_from zero ws s = none
words_from (suc k) ws s =
    elim (next? ws s) [
      | true ↦ on_blank (ws ++ (word_run s ∷ [])) (words_from k (ws ++ (word_run s ∷ []))) (drop (length (word_run s)) s)
      | false ↦ none
    ]

-- the words of a list, or none where it is not one; an empty list has no words
unfoldable pub list_of : List ℕ → Option (List (List ℕ))
unfolding words_from
list_of [] = some []
list_of (b ∷ s) = words_from (length (b ∷ s)) [] (b ∷ s)
