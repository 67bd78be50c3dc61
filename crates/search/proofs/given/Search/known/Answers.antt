-- `search::given::Search::known` meets its contract: the tests are those of `known`, of the token that stands there.
use mathlib.Core.Bool.{not}
use mathlib.Core.Path.{◌∙◌, ap}
use Rattle.search.proofs.ReplyLaws.{pair-asked, masks-asked, known-empty, known-none, known-undone, known-done}
use Rattle.search.proofs.given.Search.known.Goals as goal

pub starts-requires : goal.starts-requires
starts-requires c = masks-asked c.requires c.token_at-t.ensures

pub empty-requires : goal.empty-requires
empty-requires c = masks-asked c.requires c.token_at-t.ensures

pub returns-then-empty : goal.returns-then-empty
returns-then-empty c = known-empty c.requires c.token_at-t.ensures c.starts.ensures (ap not c.if-not-starts.true) c.empty.ensures c.if-empty.true

pub returns-then-not-starts : goal.returns-then-not-starts
returns-then-not-starts c =
    known-none c.requires c.token_at-t.ensures c.starts.ensures (ap not c.if-not-starts.true) c.empty.ensures c.if-empty.false

pub returns-then-not-is_done : goal.returns-then-not-is_done
returns-then-not-is_done c =
    known-undone c.requires c.token_at-t.ensures c.starts.ensures (ap not c.if-not-starts.false) c.is_done.ensures (ap not c.if-not-is_done.true)

pub tag_of-requires : goal.tag_of-requires
tag_of-requires c = pair-asked c.requires

pub returns : goal.returns
returns c =
    c.told.ensures _
    ∙ known-done c.requires c.token_at-t.ensures c.starts.ensures (ap not c.if-not-starts.false)
    c.is_done.ensures (ap not c.if-not-is_done.false) c.tag_of.ensures
