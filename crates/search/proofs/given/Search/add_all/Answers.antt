-- The goals of `search::given::Search::add_all` that are not found.
use Rattle.std.proofs.Common.{◌∙◌}
use native.Mathlib.Omega.{arith}
use Rattle.positions.proofs.MemberLaws.{loop-begins, turn-holds, turn-within, turn-inside, loop_on, loop-ends}
use Rattle.search.proofs.AddLaws.{adding-begins, adding-next, adding-ends}
use Rattle.search.proofs.given.Search.add_all.Goals as goal

pub loop-m-init : goal.loop-m-init
loop-m-init c = (
  tt,
  tt,
  loop-begins (c.into_iter-m-iterator.ensures.into_iter_gives ∙ c.members-m-items.ensures)
      (λ m h. adding-begins _ _ _ _ _ _ _ c.requires.fits h),
)

pub add_allowed-r-requires : goal.add_allowed-r-requires
add_allowed-r-requires c =
    let added = turn-holds c.loop-m.invariant.2 c.in-Some.ensures.steps in (
      record {
        masked = c.requires.masked;
        short = c.requires.short;
        kinds = c.requires.kinds;
        named = c.requires.named;
        alternative = c.requires.alternative;
        fits = added.fits;
      },
      turn-within c.loop-m.invariant.2 c.in-Some.ensures.steps,
    )

pub loop-m-preserved : goal.loop-m-preserved
loop-m-preserved c =
    let going = c.loop-m.invariant.2 in
    let step = c.in-Some.ensures.steps in (
      tt,
      tt,
      loop_on going step
          (λ m h. adding-next _ _ _ _ _ _ (turn-holds going step) _ _ (turn-inside going step) h c.add_allowed-r.ensures.1 c.add_allowed-r.ensures.0),
    )

pub returns : goal.returns
returns c =
    let (m, l, x) = loop-ends c.loop-m.invariant.2 c.in-None.ensures.steps (omega (arith, c.requires.short)) in
    (adding-ends _ _ _ _ _ _ x l, x.fits)
