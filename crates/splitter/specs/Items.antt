-- A line's items as they are found: leftmost, each as long as it can be; specs/Cutting says what an item is with no test in it.
use Rattle.std.specs.Prelude.{ℕ, zero, suc, Bool, true, false, cond, ◌&&◌, List, [], ◌∷◌, ◌++◌, map, length, get_or, drop, eqb}
use Rattle.std.proofs.Math.Option.{Option}
use Rattle.base.specs.Search.{lowest_from}
use Rattle.splitter.specs.Classes.{foreign, letter?, digit?, blank?, foreign?, mark_kind}
use Rattle.splitter.specs.Listing.{prefix, word_run, same_bytes?}

-- the kinds of a word that is not listed and of a number, and of the first listed word
abbrev pub plain_word : ℕ
plain_word = 1

abbrev pub number_kind : ℕ
number_kind = 2

abbrev pub first_listed : ℕ
first_listed = 35

-- the byte between a number's digits
abbrev pub point : ℕ
point = 46

-- the most tokens of a line
abbrev pub max_split : ℕ
max_split = 128

-- the digits that a row of bytes begins with
unfoldable pub digit_run : List ℕ → List ℕ
unfolding prefix digit?
digit_run s = prefix digit? s

-- a point, and a digit behind it
unfoldable pub pointed? : List ℕ → Bool
unfolding digit?
pointed? [] = false
pointed? (b ∷ []) = false
pointed? (b ∷ d ∷ s) = eqb b point && digit? d

-- a point with the digits behind it, where there is one
unfoldable pub fraction : List ℕ → List ℕ
unfolding pointed? digit_run
fraction s = cond (pointed? s) (point ∷ digit_run (drop 1 s)) []

-- the number that a row of bytes begins with
unfoldable pub number_bytes : List ℕ → List ℕ
unfolding digit_run fraction
number_bytes s = digit_run s ++ fraction (drop (length (digit_run s)) s)

-- the item that begins with b: a word, a number, or b alone
unfoldable pub item_bytes : ℕ → List ℕ → List ℕ
unfolding letter? digit? word_run number_bytes
item_bytes b s = cond (letter? b) (word_run (b ∷ s)) (cond (digit? b) (number_bytes (b ∷ s)) (b ∷ []))

-- the items of a line; k is at least its length
unfoldable pub items_from : ℕ → List ℕ → List (List ℕ)
unfolding blank? item_bytes
items_from zero s = []
items_from (suc k) [] = []
items_from (suc k) (b ∷ s) =
    elim (blank? b) [
      | true ↦ items_from k s
      | false ↦ item_bytes b s ∷ items_from k (drop (length (item_bytes b s)) (b ∷ s))
    ]

-- the kind of a word, by the words from kind k on: byte for byte one of them, or plain
unfoldable pub kind_from : ℕ → List (List ℕ) → List ℕ → ℕ
unfolding same_bytes?
kind_from k [] u = plain_word
kind_from k (w ∷ ws) u = elim (same_bytes? w u) [ true ↦ k | false ↦ kind_from (suc k) ws u ]

unfoldable pub word_kind : List (List ℕ) → List ℕ → ℕ
unfolding kind_from
word_kind ws u = kind_from first_listed ws u

-- the kind of an item, by its first byte
unfoldable pub kind_of : List (List ℕ) → List ℕ → ℕ
unfolding letter? digit? word_kind mark_kind
kind_of ws [] = 0
kind_of ws (b ∷ s) = cond (letter? b) (word_kind ws (b ∷ s)) (cond (digit? b) number_kind (mark_kind b))

-- the kinds of a line
unfoldable pub kinds_of : List (List ℕ) → List ℕ → List ℕ
unfolding items_from kind_of
kinds_of ws s = map (kind_of ws) (items_from (length s) s)

-- the first foreign byte's place
unfoldable pub first_foreign : List ℕ → Option ℕ
unfolding lowest_from foreign?
first_foreign s = lowest_from (λ i. foreign? (get_or s i foreign)) 0 (length s)
