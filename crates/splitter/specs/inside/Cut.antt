-- What the steps of the splitter answer.
use Rattle.std.specs.Prelude.{◌≡◌, ℕ, ◌+◌, ◌≤◌, ◌<◌, List, [], ◌∷◌, length, take, Option, Some, None}
use Rattle.std.proofs.Math.Option.{Option as Found, none, some}
use Rattle.splitter.specs.Items.{max_split, item_bytes, kind_of, kinds_of}
use Rattle.splitter.specs.declared.cutting.Item.{Item}

-- what a search finds, as the code answers it
abbrev pub scan_of : Found ℕ → Option ℕ
scan_of none = None
scan_of (some at) = Some at

-- the item that stands at i, where these bytes begin
unfoldable pub item_in : List (List ℕ) → ℕ → List ℕ → Item
unfolding item_bytes kind_of
item_in ws i [] = record { kind = 0; end = i }
item_in ws i (b ∷ s) = record { kind = kind_of ws (item_bytes b s); end = i + length (item_bytes b s) }

-- the kinds counted stand at the row's start, or there are too many
unfoldable pub CutDid : List (List ℕ) → List ℕ → Option ℕ → List ℕ → Type 0
CutDid ws line (Some k) kinds = (k ≤ max_split) × (take k kinds ≡ kinds_of ws line) × (length kinds ≡ max_split)
CutDid ws line None kinds = (max_split < length (kinds_of ws line)) × (length kinds ≡ max_split)
