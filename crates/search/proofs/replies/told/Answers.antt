-- `search::replies::told` meets its contract: each kind of tag has its reply.
use Rattle.search.proofs.ReplyLaws.{told_none, told-one, told-several}
use Rattle.search.proofs.replies.told.Goals as goal

pub returns-in-None : goal.returns-in-None
returns-in-None c = told_none c.in-None.is

pub returns-in-One : goal.returns-in-One
returns-in-One c = told-one c.in-One.is

pub returns-in-Several : goal.returns-in-Several
returns-in-Several c = told-several c.in-Several.is
