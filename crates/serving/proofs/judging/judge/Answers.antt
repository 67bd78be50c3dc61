-- `serving::judging::judge` meets its contract: a search with budget asks the start symbol, and what is then known of it tells.
use mathlib.Core.Path.{sym, ◌∙◌}
use native.Mathlib.Omega.{arith}
use Rattle.serving.proofs.AidLaws.{may-begin}
use Rattle.serving.proofs.JudgeLaws.{start-asks, may-start, judged-out, judged-later, judged-sentence, judged-wrong}
use Rattle.serving.proofs.judging.judge.Goals as goal

pub begin-requires : goal.begin-requires
begin-requires c = may-begin c.requires.1.told c.requires.1.stage

pub returns-then-tally-lt2 : goal.returns-then-tally-lt2
returns-then-tally-lt2 c = judged-out c.requires.1 c.begin.ensures (omega arith)

pub ask_start-requires : goal.ask_start-requires
ask_start-requires c = may-start c.requires.1 c.begin.ensures (omega arith) c.size_of-size.ensures

pub returns-then-tally-lt2-2 : goal.returns-then-tally-lt2-2
returns-then-tally-lt2-2 c = judged-later c.requires.1 c.begin.ensures (omega arith) c.ask_start.ensures (omega arith)

pub known-reply-requires : goal.known-reply-requires
known-reply-requires c = start-asks c.ask_start.ensures.searching c.size_of-size.ensures

pub shape_of-masks-then-ends_note : goal.shape_of-masks-then-ends_note
shape_of-masks-then-ends_note c = c.masks-1.given

pub shape_of-tally-then-ends_note : goal.shape_of-tally-then-ends_note
shape_of-tally-then-ends_note c = c.ask_start.ensures.tallied.long ∙ sym c.requires.1.told.tallied.long

pub shape_of-ws-then-ends_note : goal.shape_of-ws-then-ends_note
shape_of-ws-then-ends_note c = c.ask_start.ensures.long ∙ c.begin.ensures.long

pub returns-then-ends_note : goal.returns-then-ends_note
returns-then-ends_note c =
    judged-sentence c.requires.1 c.begin.ensures (omega (arith, c.if-tally-lt2.false)) c.ask_start.ensures
    (omega (arith, c.if-tally-lt2-2.false)) c.known-reply.result c.known-reply.ensures c.ends_note.ensures c.meter-meter.ensures.1
    c.min-place.ensures c.if-ends_note.true

pub shape_of-masks : goal.shape_of-masks
shape_of-masks c = c.masks-1.given

pub shape_of-tally : goal.shape_of-tally
shape_of-tally c = c.ask_start.ensures.tallied.long ∙ sym c.requires.1.told.tallied.long

pub shape_of-ws : goal.shape_of-ws
shape_of-ws c = c.ask_start.ensures.long ∙ c.begin.ensures.long

pub returns : goal.returns
returns c =
    judged-wrong c.requires.1 c.begin.ensures (omega (arith, c.if-tally-lt2.false)) c.ask_start.ensures
    (omega (arith, c.if-tally-lt2-2.false)) c.known-reply.result c.known-reply.ensures c.ends_note.ensures c.meter-meter.ensures.1
    c.min-place.ensures c.if-ends_note.false
