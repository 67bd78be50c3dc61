-- The goals of `search::given::Search::attempt` that are not found.
use mathlib.Core.Path.{◌≡◌, ap}
use mathlib.Core.List.{List}
use Prim.Native.Nat.{ℕ}
use native.Mathlib.Omega.{arith}
use native.Mathlib.Numerals.{add-one}
use lib.ListN.{length, get_or}
use borrow.Author.Rules.{rules}
use Rattle.std.proofs.lemmas.Result.{err_from_is_err_and}
use Rattle.search.proofs.MeterLaws.{reached-left, reached-high}
use Rattle.search.proofs.TryLaws.{number_small, first-is, first_inside, may_add, may-branch, went-as}
use Rattle.search.proofs.AttemptLaws.{trying-none, trying-all, trying-nowhere, trying-one, trying-needs, several-known, several-halts}
use Rattle.search.proofs.given.Search.attempt.Goals as goal
use Rattle.search.proofs.given.Search.attempt.Goals.{in-Nowhere, in-Ends, in-Several+in_ok-ends-in-Several}

pub loop-before-init : goal.loop-before-init
loop-before-init c = trying-none _ _ _ _ _ _ _ (omega arith) c.no_ends-ends.ensures.0 c.no_ends-ends.ensures.1

pub along-requires : goal.along-requires
along-requires c =
    let f : c.from.result ≡ get_or c.first_places-f-items.result.now c.loop-before.before 0 = search rules in
    record {
      searching = c.requires.searching;
      sized = c.requires.sized;
      place = first_inside _ _ c.first_places-f-items.ensures c.loop-before-test.true f c.requires.searching.given.ready;
      position = c.requires.pair.1;
    }

pub returns-in-Needs : goal.returns-in-Needs
returns-in-Needs c =
    let x = c.args in
    let way = went-as x.self.tables.now x.self.note.now x.self.masks.now x.ws.now c.from.result x.pair.position c.in-Needs.is c.along.ensures in
    let f : c.from.result ≡ get_or c.first_places-f-items.result.now c.loop-before.before 0 = search rules in
    let d = first-is _ _ c.first_places-f-items.ensures c.loop-before-test.true f in
    let paid = c.in_ok-pay.ensures in
    trying-needs _ _ _ _ _ _ _ c.loop-before.invariant d way (omega (arith, paid.0)) paid.1

pub add_allowed-ends-requires : goal.add_allowed-ends-requires
add_allowed-ends-requires c =
    let x = c.args in
    let way = went-as x.self.tables.now x.self.note.now x.self.masks.now x.ws.now c.from.result x.pair.position c.in-Ends.is c.along.ensures in
    let named = c.requires.pair.0 in
    let few = number_small c.requires.searching.given.ready named (rw c.first_places-f-items.ensures at c.loop-before-test.true) in
    (may_add c.requires.searching.given named few c.loop-before.invariant.fits, way.came.within)

pub branch-self-requires : goal.branch-self-requires
branch-self-requires c =
    let x = c.args in
    let way = went-as x.self.tables.now x.self.note.now x.self.masks.now x.ws.now c.from.result x.pair.position c.in-Several.is c.along.ensures in
    let named = c.requires.pair.0 in
    let few = number_small c.requires.searching.given.ready named (rw c.first_places-f-items.ensures at c.loop-before-test.true) in
    may-branch c.requires.searching c.requires.sized named few c.loop-before.invariant.fits way

pub returns-in_err-ends-in-Several : goal.returns-in_err-ends-in-Several
returns-in_err-ends-in-Several c =
    let x = c.args in
    let way = went-as x.self.tables.now x.self.note.now x.self.masks.now x.ws.now c.from.result x.pair.position c.in-Several.is c.along.ensures in
    let f : c.from.result ≡ get_or c.first_places-f-items.result.now c.loop-before.before 0 = search rules in
    let d = first-is _ _ c.first_places-f-items.ensures c.loop-before-test.true f in
    let paid = c.in_ok-pay.ensures in
    let p = err_from_is_err_and c.from_residual-in_err-ends-in-Several.result c.from_residual-in_err-ends-in-Several.ensures.1 in
    rw (p.1, p.2)
    (several-halts _ _ _ _ _ _ _ c.loop-before.invariant d way (add-one _) (omega (arith, paid.0)) paid.1 c.branch-self.ensures
    c.in_err-ends-in-Several.was)

pub loop-before-preserved : goal.loop-before-preserved
loop-before-preserved c =
    let x = c.args in
    let f : c.from.result ≡ get_or c.first_places-f-items.result.now c.loop-before.before 0 = search rules in
    let d = first-is _ _ c.first_places-f-items.ensures c.loop-before-test.true f in
    let paid = c.in_ok-pay.ensures in
    elim c.match-along.branch [
      | in-Nowhere w ↦ rw (w.meter-is, w.ends-is)
          (trying-nowhere _ _ _ _ _ _ _ c.loop-before.invariant d (add-one _)
          (went-as x.self.tables.now x.self.note.now x.self.masks.now x.ws.now c.from.result x.pair.position w.in-Nowhere.is c.along.ensures)
          (rw paid.1 at (reached-high c.pay.new.self w.reach.ensures)) (omega (arith, paid.0, reached-left c.pay.new.self w.reach.ensures)))
      | in-Ends w ↦ rw (w.meter-is, w.ends-is)
          (trying-one _ _ _ _ _ _ _ c.loop-before.invariant d (add-one _)
          (went-as x.self.tables.now x.self.note.now x.self.masks.now x.ws.now c.from.result x.pair.position w.in-Ends.is c.along.ensures)
          (rw paid.1 at (reached-high c.pay.new.self w.reach-in-Ends.ensures))
          (omega (arith, paid.0, reached-left c.pay.new.self w.reach-in-Ends.ensures)) w.add_allowed-ends.ensures.0 w.add_allowed-ends.ensures.1)
      | in-Several+in_ok-ends-in-Several w ↦ rw (w.meter-is, w.ends-is)
          (several-known _ _ _ _ _ _ _ c.loop-before.invariant d
          (went-as x.self.tables.now x.self.note.now x.self.masks.now x.ws.now c.from.result x.pair.position w.in-Several.is c.along.ensures)
          (add-one _) (omega (arith, paid.0)) paid.1
          w.branch-self.ensures c.requires.searching.given.ready w.in_ok-ends-in-Several.was)
    ]

pub returns : goal.returns
returns c =
    trying-all _ _ _ _ _ _ _ c.loop-before.invariant
    (omega (arith, ap (λ (l : List ℕ). length l) c.first_places-f-items.ensures, c.loop-before-test.false))
