-- What a list is, told with no computed test: words with single blanks between, none twice, at most 66.
use Rattle.std.specs.Prelude.{◌≡◌, List, [], ◌∷◌, ◌++◌, ℕ, ◌≤◌, length}
use Rattle.std.proofs.Math.Option.{some}
use Rattle.std.proofs.Math.ListN.{get_elem?}
use Rattle.splitter.specs.Listing.{max_listed, space}
use Rattle.splitter.specs.Cutting.{IsWord}

-- words with single blanks between
pub data Joined : List ℕ → List (List ℕ) → Type 0 where
  one : (w : List ℕ) → IsWord w → Joined w (w ∷ [])
  more : (s w t : List ℕ) (ws : List (List ℕ)) → s ≡ w ++ (space ∷ t) → IsWord w → Joined t ws → Joined s (w ∷ ws)

-- no words, or joined ones
pub data Listed : List ℕ → List (List ℕ) → Type 0 where
  empty : Listed [] []
  joined : (s : List ℕ) (ws : List (List ℕ)) → Joined s ws → Listed s ws

-- none stands at two places
abbrev pub Once : List (List ℕ) → Type 0
Once ws = (i j : ℕ) (w : List ℕ) → get_elem? ws i ≡ some w → get_elem? ws j ≡ some w → i ≡ j

-- the bytes are a list of these words
pub record IsList (s : List ℕ) (ws : List (List ℕ)) : Type 0 where
  pub listed : Listed s ws
  pub once : Once ws
  pub few : length ws ≤ max_listed
