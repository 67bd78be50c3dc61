-- What reading a list answers.
use Rattle.std.specs.Prelude.{◌≡◌, List, ℕ, Bool, true, false, Option, Some, None}
use Rattle.std.proofs.Math.Option.{none, some}
use Rattle.splitter.specs.Listing.{list_of}
use Rattle.splitter.specs.inside.Index.{words_at}
use Rattle.splitter.specs.declared.words.Words.{Words}

-- the words of the list, or nothing where it is none
unfoldable pub ListingDid : List ℕ → Option Words → Type 0
ListingDid list (Some w) = (w.list.now ≡ list) × (some (words_at list w.starts w.count) ≡ list_of list)
ListingDid list None = none ≡ list_of list

-- whether it is a list, and its words then
unfoldable pub IndexDid : List ℕ → Words → Bool → Type 0
IndexDid list w true = (w.list.now ≡ list) × (some (words_at list w.starts w.count) ≡ list_of list)
IndexDid list w false = none ≡ list_of list
