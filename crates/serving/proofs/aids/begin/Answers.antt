-- `serving::aids::begin` meets its contract: FIRST and FOLLOW are right, no pair is worked out, and the words of the cells are enough for the search.
use mathlib.Core.Bool.{not}
use mathlib.Core.Path.{ap}
use native.Mathlib.Omega.{arith}
use Rattle.derivation.proofs.ReadyLaws.{ready-size}
use Rattle.first_follow.proofs.ExactLaws.{exact-closed}
use Rattle.search.specs.inside.Searching.{Given}
use Rattle.serving.proofs.AidLaws.{units-few, begun-same, begun-out, begun_fresh, fits-is}
use Rattle.serving.proofs.aids.begin.Goals as goal

pub returns-then-tally-ne0 : goal.returns-then-tally-ne0
returns-then-tally-ne0 c = begun-same c.requires (λ e. omega arith)

pub returns-then-not-fits : goal.returns-then-not-fits
returns-then-not-fits c = begun-out c.requires (omega arith)

pub mark-requires : goal.mark-requires
mark-requires c = (c.requires.told.ready, c.requires.blank (omega arith))

pub units-requires : goal.units-requires
units-requires c = (omega (arith, c.size.ensures, ready-size _ c.requires.told.ready), c.requires.told.lent.short)

pub keep-requires : goal.keep-requires
keep-requires c =
    let places = ready-size _ c.requires.told.ready in
    let short = c.requires.told.lent.short in
    let few = units-few _ (omega (arith, c.size.ensures, places)) short c.units.ensures c.min-left.ensures in
    (c.requires.told.tallied.long, omega (arith, few), short)

pub returns : goal.returns
returns c =
    let told = c.requires.told in
    let marks = c.mark.ensures in
    let given : Given _ _ _ = record {
      ready = told.ready;
      short = told.lent.short;
      tokens = told.tokens;
      closed = exact-closed _ _ marks.0;
      masked = marks.1;
      nullable = marks.2;
    } in
    begun_fresh c.requires (omega arith) (fits-is _ c.fits.ensures (ap not c.if-not-fits.false)) given c.size_of.ensures
    c.clear.ensures.0 c.clear.ensures.1 _ (omega (arith, c.size.ensures, ready-size _ c.requires.told.ready))
    c.units.ensures c.min-left.ensures c.keep.ensures
