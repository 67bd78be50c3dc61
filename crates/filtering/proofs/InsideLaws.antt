-- Over a marked note, by tables that are ready: ends lie within the note, for productions never read the end mark.
use mathlib.Core.List.{List}
use Prim.Native.Nat.{ℕ, ◌≤◌, ◌<◌}
use lib.ListN.{length}
use Rattle.grammar.specs.inside.Tables.{grammar_in}
use Rattle.derivation.specs.Runs.{marked}
use Rattle.derivation.specs.inside.Ready.{Ready}
use Rattle.derivation.proofs.CellLaws.{derives-complete}
use Rattle.derivation.proofs.MarkedCells.{derives-inside}
use Rattle.derivation.proofs.ReadyLaws.{ready-first}
use Rattle.first_follow.specs.inside.Masks.{Masks}
use Rattle.filtering.specs.inside.Filtered.{Ends, PairEnds}
use Rattle.filtering.proofs.FilterLaws.{der_f-der}

module _ (t : List ℕ) (h : Ready t) (w : List ℕ) where
  ends-inside : {M : Masks} (p i m : ℕ) → p < (grammar_in t).size → i ≤ length w → Ends (grammar_in t) M (marked w) p i m → m ≤ length w
  ends-inside p i m l z (r, x) = derives-inside t h w p i m l z (derives-complete (grammar_in t) (marked w) (der_f-der x))

  pub pair_inside : {M : Masks} (a i m : ℕ) → i ≤ length w → PairEnds (grammar_in t) M (marked w) a i m → m ≤ length w
  pair_inside a i m z (b, (f, d, x, u)) = ends-inside f i m (ready-first t h a b f d) z x
