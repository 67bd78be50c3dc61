-- Demand 2, in the textbook's words: what a reading of at most 128 known tokens by a sound grammar in enough working space must answer.
use Rattle.std.specs.Prelude.{◌≡◌, ◌↔◌, ◌⊎◌, List, [], ◌∷◌, ◌++◌, ℕ, ◌-◌, ◌≤◌, ◌<◌, length, get_or, replicate}
use Rattle.grammar.specs.declared.Symbol.TheVariants.{Nonterminal}
use Rattle.grammar.specs.Derivation.{Syntax, Leftmost}
use Rattle.derivation.specs.Chosen.{Chosen}
use Rattle.derivation.specs.Viable.{Sentence, WrongAt}
use Rattle.derivation.specs.Plain.{Answer}

-- every token of the note is one of the grammar's kinds
abbrev pub Known : ℕ → List ℕ → Type 0
Known kinds w = (i : ℕ) → i < length w → (1 ≤ get_or w i 0) × (get_or w i 0 ≤ kinds)

-- d is the derivation of the note that takes at each step the lowest alternative from which the whole rest can still be derived
abbrev pub ChosenFor : Syntax → List ℕ → List ℕ → Type 0
ChosenFor g w d = Chosen g (Nonterminal 0 ∷ []) d w

-- the note is a sentence and that derivation has no more entries than the row
abbrev pub FitsRow : Syntax → List ℕ → List ℕ → Type 0
FitsRow g w row = Sentence g w × ((d : List ℕ) × ChosenFor g w d × (length d ≤ length row))

-- the note is a sentence and that derivation has more
abbrev pub ExceedsRow : Syntax → List ℕ → List ℕ → Type 0
ExceedsRow g w row = Sentence g w × ((d : List ℕ) × ChosenFor g w d × (length row < length d))

-- accepted: the row, as long as it was, has the chosen derivation, the only one, which is a leftmost derivation, and zeros behind it
pub record GivesDerivation (g : Syntax) (w row : List ℕ) (x : Answer) : Type 0 where
  pub derivation : List ℕ
  pub chosen : ChosenFor g w derivation
  pub only : (d : List ℕ) → ChosenFor g w d → d ≡ derivation
  pub leftmost : Leftmost g (Nonterminal 0 ∷ []) derivation w
  pub place : x.place ≡ 0
  pub count : x.count ≡ length derivation
  pub entries : x.row ≡ derivation ++ replicate (length row - length derivation) 0
  pub long : length x.row ≡ length row

-- refused: no entries, and the row, as long as it was, has zeros alone
pub record Cleared (row : List ℕ) (x : Answer) : Type 0 where
  pub count : x.count ≡ 0
  pub zeros : x.row ≡ replicate (length row) 0

-- the right answer x to a note w and a row, which demand 2 calls for
pub record RightAnswer (g : Syntax) (w row : List ℕ) (x : Answer) : Type 0 where
  -- the number says exactly what the note is
  pub zero : (x.number ≡ 0) ↔ FitsRow g w row
  pub ten : (x.number ≡ 10) ↔ ¬ Sentence g w
  pub fourteen : (x.number ≡ 14) ↔ ExceedsRow g w row
  -- there is no other
  pub one_of : (x.number ≡ 0) ⊎ (x.number ≡ 10) ⊎ (x.number ≡ 14)
  -- and what the answer says besides
  pub accepted : x.number ≡ 0 → GivesDerivation g w row x
  pub wrong : x.number ≡ 10 → WrongAt g w x.place × Cleared row x
  pub short : x.number ≡ 14 → (x.place ≡ 0) × Cleared row x
