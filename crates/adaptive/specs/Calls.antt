-- Readings as calls: what one is lent, and quick ones made one after another over one cache.
use Rattle.std.specs.Prelude.{List, [], ◌∷◌, ℕ}
use Rattle.derivation.specs.Plain.{Answer, plain_reading}
use Rattle.adaptive.specs.Quick.{Reply, quick_reading}

-- what a reading is lent besides the grammar's bytes and the cache: a note, a row, and a working space of so many words
pub record Call : Type 0 where
  pub note : List ℕ
  pub row : List ℕ
  pub space : ℕ

-- the same from its parts
abbrev pub call : List ℕ → List ℕ → ℕ → Call
call w row space = record { note = w; row = row; space = space }

-- the quick reading of a call over words c, and the plain reading of one
abbrev pub quick : List ℕ → List ℕ → Call → Reply
quick s c k = quick_reading s k.note k.row k.space c

abbrev pub plain : List ℕ → Call → Answer
plain s k = plain_reading s k.note k.row k.space

-- calls made one after another, each over the words that the one before it left: `read` makes one
unfoldable pub in_turn : (List ℕ → Call → Reply) → List ℕ → List Call → List Reply
in_turn read c [] = []
in_turn read c (k ∷ ks) = let x = read c k in x ∷ in_turn read x.words ks

-- the words that the last one left
unfoldable pub last_words : List ℕ → List Reply → List ℕ
last_words c [] = c
last_words c (x ∷ xs) = last_words x.words xs
