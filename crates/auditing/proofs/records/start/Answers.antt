-- `auditing::records::start` meets its contract: no record, or one of a nonterminal that decides, whose outcome is worked out and compared.
use mathlib.Core.Bool.{not}
use mathlib.Core.Path.{ap}
use Rattle.cache.proofs.AskSteps.{told-room}
use Rattle.auditing.proofs.RecordSteps.{decides-named, no_start, start-of-none, start-judged}
use Rattle.auditing.proofs.records.start.Goals as goal

pub returns-then-w-eq0 : goal.returns-then-w-eq0
returns-then-w-eq0 c = no_start _ _ _ c.start_of-w.ensures c.if-w-eq0.true

pub returns-then-not-decides : goal.returns-then-not-decides
returns-then-not-decides c = start-of-none _ _ _ c.start_of-w.ensures c.if-w-eq0.false c.decides.ensures (ap not c.if-not-decides.true)

pub start-outcome-requires : goal.start-outcome-requires
start-outcome-requires c =
    let named = decides-named _ _ c.decides.ensures (ap not c.if-not-decides.false) in
    record { ready = c.requires.0.ready; long = c.requires.0.long; named = named }

pub says-requires : goal.says-requires
says-requires c = (c.requires.0.words, told-room _ _ _ c.start-outcome.ensures)

pub returns : goal.returns
returns c =
    start-judged _ _ _ c.start_of-w.ensures c.if-w-eq0.false c.decides.ensures
    (ap not c.if-not-decides.false) _ _ c.start-outcome.ensures c.says.ensures
