-- `batch::reading::batch` meets its contract: 1 to 7 and 18 are refused as the definition does, before anything changes; then the tables hold the grammar, the
-- parts fit, and the notes are read over the cache as it stands.
use mathlib.Core.Bool.{not}
use mathlib.Core.Path.{refl, ap}
use Rattle.std.proofs.lemmas.Result.{err_from_is_err_and}
use Rattle.batch.proofs.ReadingLaws.{grammar-is, bad-is, parted, read_is}
use Rattle.batch.proofs.reading.batch.Goals as goal

pub returns-in_err-compile : goal.returns-in_err-compile
returns-in_err-compile c =
    let p = err_from_is_err_and c.from_residual.result c.from_residual.ensures.1 in
    rw (p.1, p.2) (grammar-is _ _ _ _ _ _ _ c.compile.ensures c.in_err-compile.was, λ n. refl)

pub returns-then-not-fits : goal.returns-then-not-fits
returns-then-not-fits c = (bad-is _ _ _ _ _ _ _ c.compile.ensures c.in_ok-compile.was c.fits.ensures (ap not c.if-not-fits.true), λ n. refl)

pub read_all-requires : goal.read_all-requires
read_all-requires c =
    parted c.args.grammar.now _ _ _ _ _ c.compile.ensures c.in_ok-compile.was c.fits.ensures (ap not c.if-not-fits.false)
    c.stands-standing.ensures

pub returns : goal.returns
returns c = (
  read_is _ _ _ _ _ _ _ c.compile.ensures c.in_ok-compile.was c.fits.ensures (ap not c.if-not-fits.false)
      c.stands-standing.ensures c.read_all.ensures,
  λ n. absurd (n refl),
)
