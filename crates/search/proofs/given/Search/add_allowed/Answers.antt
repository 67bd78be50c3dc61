-- `search::given::Search::add_allowed` meets its contract: the end is added exactly if its token may follow.
use mathlib.Core.Bool.{not}
use mathlib.Core.Path.{ap}
use native.Mathlib.Omega.{arith}
use Rattle.filtering.specs.inside.Tags as tags
use Rattle.search.specs.inside.Trials.{told_by}
use Rattle.search.proofs.AddLaws.{token-is, drops, keeps}
use Rattle.search.proofs.given.Search.add_allowed.Goals as goal

pub follows-requires : goal.follows-requires
follows-requires c =
    let e = token-is c.args.self.note.now c.args.j c.token_at-t.ensures in
    (omega (arith, e, c.requires.0.kinds c.args.j), c.requires.0.named, c.requires.0.masked)

pub returns-then-not-follows : goal.returns-then-not-follows
returns-then-not-follows c =
    let x = c.args in (
      drops x.self.note.now x.j c.token_at-t.ensures x.self.masks.now x.a c.follows.ensures
          (tags.add (told_by x.ends) x.k x.j) (told_by x.ends) (ap not c.if-not-follows.true),
      c.requires.0.fits,
    )

pub add-requires : goal.add-requires
add-requires c = (c.requires.0.fits, omega (arith, c.requires.0.short, c.requires.1), c.requires.0.alternative)

pub returns : goal.returns
returns c =
    let x = c.args in (
      keeps x.self.note.now x.j c.token_at-t.ensures x.self.masks.now x.a c.follows.ensures
          (tags.add (told_by x.ends) x.k x.j) (told_by x.ends) (ap not c.if-not-follows.false) c.add.ensures.0,
      c.add.ensures.1,
    )
