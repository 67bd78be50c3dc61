-- How a line is cut into items, and the kinds that they have, told with no computed test.
use Rattle.std.specs.Prelude.{◌≡◌, List, [], ◌∷◌, ◌++◌, ◌⊎◌, ℕ, ◌+◌, ◌≤◌, length, replicate}
use Rattle.std.proofs.Math.Option.{some}
use Rattle.std.proofs.Math.ListN.{get_elem?}
use Rattle.base.specs.Lists.{AllOf}
use Rattle.splitter.specs.Bytes.{IsLetter, IsDigit, IsMark}
use Rattle.splitter.specs.Listing.{space}
use Rattle.splitter.specs.Items.{point, plain_word, number_kind, first_listed}

-- a letter and letters and digits after it
pub data IsWord : List ℕ → Type 0 where
  word : (b : ℕ) (s : List ℕ) → IsLetter b → AllOf (λ c. IsLetter c ⊎ IsDigit c) s → IsWord (b ∷ s)

-- one digit or more
pub data Digits : List ℕ → Type 0 where
  digits : (b : ℕ) (s : List ℕ) → IsDigit b → AllOf IsDigit s → Digits (b ∷ s)

-- digits, or digits, a point and further digits
pub data IsNumber (u : List ℕ) : Type 0 where
  whole : Digits u → IsNumber u
  pointed : (d e : List ℕ) → Digits d → Digits e → u ≡ d ++ (point ∷ e) → IsNumber u

-- a word, a number, or a mark alone
pub data IsItem (u : List ℕ) : Type 0 where
  word : IsWord u → IsItem u
  number : IsNumber u → IsItem u
  mark : (b : ℕ) → IsMark b → u ≡ b ∷ [] → IsItem u

-- a line is cut into blanks and items, each item as long as it can be
pub data Cut : List ℕ → List (List ℕ) → Type 0 where
  end : Cut [] []
  blank : (s : List ℕ) (us : List (List ℕ)) → Cut s us → Cut (space ∷ s) us
  item : (s u t : List ℕ) (us : List (List ℕ)) → u ++ t ≡ s → IsItem u → ((v r : List ℕ) → v ++ r ≡ s → IsItem v → length v ≤ length u) → Cut t us
      → Cut s (u ∷ us)

-- items with so many blanks before each, and behind the last
unfoldable pub woven : List ℕ → List (List ℕ) → ℕ → List ℕ
woven [] us last = replicate last space
woven (n ∷ gaps) [] last = replicate last space
woven (n ∷ gaps) (u ∷ us) last = replicate n space ++ (u ++ woven gaps us last)

-- a row of bytes is these items and blanks between them
pub record Woven (s : List ℕ) (us : List (List ℕ)) : Type 0 where
  pub gaps : List ℕ
  pub last : ℕ
  pub each : length gaps ≡ length us
  pub whole : woven gaps us last ≡ s

-- the marks in byte order
abbrev pub marks : List ℕ
marks =
    33 ∷ 34 ∷ 35 ∷ 36 ∷ 37 ∷ 38 ∷ 39 ∷ 40 ∷ 41 ∷ 42 ∷ 43 ∷ 44 ∷ 45 ∷ 46 ∷ 47 ∷ 58 ∷ 59 ∷ 60 ∷ 61 ∷ 62 ∷ 63 ∷ 64 ∷ 91 ∷ 92 ∷ 93 ∷ 94 ∷ 95 ∷ 96 ∷ 123 ∷ 124 ∷
    125 ∷ 126 ∷ []

-- the kind of an item: a listed word has that of its place in the list, byte for byte, any other word 1, a number 2, a mark that of its place among the marks
pub data HasKind (ws : List (List ℕ)) (u : List ℕ) : ℕ → Type 0 where
  listed : (i : ℕ) → IsWord u → get_elem? ws i ≡ some u → HasKind ws u (first_listed + i)
  plain : IsWord u → ((i : ℕ) → get_elem? ws i ≡ some u → ⊥) → HasKind ws u plain_word
  number : IsNumber u → HasKind ws u number_kind
  mark : (b i : ℕ) → u ≡ b ∷ [] → get_elem? marks i ≡ some b → HasKind ws u (3 + i)

-- each item has its kind
pub data Kinds (ws : List (List ℕ)) : List (List ℕ) → List ℕ → Type 0 where
  done : Kinds ws [] []
  and : (u : List ℕ) (us : List (List ℕ)) (k : ℕ) (ks : List ℕ) → HasKind ws u k → Kinds ws us ks → Kinds ws (u ∷ us) (k ∷ ks)

-- a kind of the splitter
abbrev pub KnownKind : ℕ → Type 0
KnownKind k = (1 ≤ k) × (k ≤ 100)
