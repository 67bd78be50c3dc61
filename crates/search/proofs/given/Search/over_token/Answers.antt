-- The goals of `search::given::Search::over_token` that are not found.
use Rattle.std.proofs.Common.{◌∙◌}
use native.Mathlib.Omega.{arith}
use Rattle.positions.proofs.MemberLaws.{loop-begins, turn-holds, turn-within, loop_on, loop-ends}
use Rattle.search.proofs.MeterLaws.{reached-left, reached-high}
use Rattle.search.proofs.OverLaws.{tokens-begin, tokens-with, tokens-other, tokens-end}
use Rattle.search.proofs.given.Search.over_token.Goals as goal

pub loop-m-init : goal.loop-m-init
loop-m-init c = (
  tt,
  tt,
  omega arith,
  loop-begins (c.into_iter-m-iterator.ensures.into_iter_gives ∙ c.members-m-items.ensures)
      (λ m h. tokens-begin _ _ _ _ _ _ _ _ _ h c.empty-to.ensures),
)

pub loop-m-preserved-then-matches : goal.loop-m-preserved-then-matches
loop-m-preserved-then-matches c =
    let going = c.loop-m.invariant.3 in
    let step = c.in-Some.ensures.steps in
    let paid = c.in_ok-pay.ensures in (
      tt,
      tt,
      omega (arith, c.loop-m.invariant.2, paid.0, reached-left c.pay.new.self c.reach.ensures),
      loop_on going step
          (λ m h. tokens-with c.requires (turn-holds going step) (turn-within going step) h c.matches.ensures c.if-matches.true c.with-to.ensures
          (rw paid.1 at (reached-high c.pay.new.self c.reach.ensures))),
    )

pub loop-m-preserved : goal.loop-m-preserved
loop-m-preserved c =
    let going = c.loop-m.invariant.3 in
    let step = c.in-Some.ensures.steps in
    let paid = c.in_ok-pay.ensures in (
      tt,
      tt,
      omega (arith, c.loop-m.invariant.2, paid.0),
      loop_on going step
          (λ m h. rw paid.1
          (tokens-other c.requires (turn-holds going step) (turn-within going step) h c.matches.ensures c.if-matches.false)),
    )

pub returns : goal.returns
returns c =
    let short = c.requires.walk.searching.given.short in
    let (m, l, x) = loop-ends c.loop-m.invariant.3 c.in-None.ensures.steps (omega (arith, short)) in
    record { spent = c.loop-m.invariant.2; raised = x.raised; passed = tokens-end c.requires x l }
