-- The goals of `search::given::Search::over_call` that are not found.
use Rattle.std.proofs.Common.{◌∙◌}
use mathlib.Core.Path.{refl}
use mathlib.Core.Logic.{inl}
use native.Mathlib.Omega.{arith}
use Rattle.positions.proofs.MemberLaws.{loop-begins, turn-holds, turn-within, loop_on, loop-ends}
use Rattle.search.proofs.ReplyLaws.{placed}
use Rattle.search.proofs.OverLaws.{calls-begin, calls-none, calls-one, calls-some, calls-wants, calls-end, only-inside, set_is}
use Rattle.search.proofs.given.Search.over_call.Goals as goal

pub loop-m-init : goal.loop-m-init
loop-m-init c = (
  tt,
  tt,
  omega arith,
  refl,
  loop-begins (c.into_iter-m-iterator.ensures.into_iter_gives ∙ c.members-m-items.ensures)
      (λ m h. calls-begin _ _ _ _ _ _ _ _ _ h c.empty-to.ensures),
)

pub known-requires : goal.known-requires
known-requires c =
    let may = c.requires in
    record {
      searching = may.walk.searching;
      sized = may.walk.sized;
      pair = (may.walk.searching.given.ready.fits.named _ _ may.faces, turn-within c.loop-m.invariant.4 c.in-Some.ensures.steps);
    }

pub returns-in-Unknown : goal.returns-in-Unknown
returns-in-Unknown c =
    let going = c.loop-m.invariant.4 in
    let step = c.in-Some.ensures.steps in
    let paid = c.in_ok-pay.ensures in
    let same = paid.1 ∙ c.loop-m.invariant.3 in
    record {
      spent = omega (arith, c.loop-m.invariant.2, paid.0);
      raised = record { up = omega (arith, same); came = inl same };
      passed = calls-wants c.requires (turn-holds going step) (turn-within going step) c.known.ensures c.in-Unknown.is;
    }

pub loop-m-preserved-in-Nowhere : goal.loop-m-preserved-in-Nowhere
loop-m-preserved-in-Nowhere c =
    let going = c.loop-m.invariant.4 in
    let step = c.in-Some.ensures.steps in
    let paid = c.in_ok-pay.ensures in (
      tt,
      tt,
      omega (arith, c.loop-m.invariant.2, paid.0),
      paid.1 ∙ c.loop-m.invariant.3,
      loop_on going step
          (λ m h. calls-none c.requires (turn-holds going step) (turn-within going step) h c.known.ensures c.in-Nowhere.is),
    )

pub with-to-requires : goal.with-to-requires
with-to-requires c =
    let going = c.loop-m.invariant.4 in
    let step = c.in-Some.ensures.steps in
    let inside = only-inside c.requires (turn-holds going step) (turn-within going step) c.known.ensures c.in-Only.is in
    omega (arith, c.requires.walk.searching.given.short)

pub loop-m-preserved-in-Only : goal.loop-m-preserved-in-Only
loop-m-preserved-in-Only c =
    let going = c.loop-m.invariant.4 in
    let step = c.in-Some.ensures.steps in
    let paid = c.in_ok-pay.ensures in (
      tt,
      tt,
      omega (arith, c.loop-m.invariant.2, paid.0),
      paid.1 ∙ c.loop-m.invariant.3,
      loop_on going step
          (λ m h. calls-one c.requires (turn-holds going step) (turn-within going step) h c.known.ensures c.in-Only.is c.with-to.ensures),
    )

pub set_of-requires : goal.set_of-requires
set_of-requires c =
    let may = c.requires in
    placed may.walk.searching may.walk.sized
    (may.walk.searching.given.ready.fits.named _ _ may.faces, turn-within c.loop-m.invariant.4 c.in-Some.ensures.steps)

pub loop-m-preserved : goal.loop-m-preserved
loop-m-preserved c =
    let going = c.loop-m.invariant.4 in
    let step = c.in-Some.ensures.steps in
    let paid = c.in_ok-pay.ensures in (
      tt,
      tt,
      omega (arith, c.loop-m.invariant.2, paid.0),
      paid.1 ∙ c.loop-m.invariant.3,
      loop_on going step
          (λ m h. calls-some c.requires (turn-holds going step) (turn-within going step) h c.known.ensures _ c.in-Several.is
          (set_is c.requires.walk.sized _ _ _ c.set_of.ensures) c.union-to.ensures),
    )

pub returns : goal.returns
returns c =
    let short = c.requires.walk.searching.given.short in
    let same = c.loop-m.invariant.3 in
    let (m, l, x) = loop-ends c.loop-m.invariant.4 c.in-None.ensures.steps (omega (arith, short)) in
    record {
      spent = c.loop-m.invariant.2;
      raised = record { up = omega (arith, same); came = inl same };
      passed = rw same (calls-end c.requires x _ l);
    }
