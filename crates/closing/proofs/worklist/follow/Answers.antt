-- `closing::worklist::follow` meets its contract: the symbol that the place faces says which moves there are.
use Rattle.configurations.proofs.FacingLaws.{place-owner}
use Rattle.configurations.proofs.GrowSteps.{grow-cast}
use Rattle.closing.proofs.WorklistLaws.{at-token, at_call, at-end, at_called}
use Rattle.closing.proofs.worklist.follow.Goals as goal

pub place_at-place-requires : goal.place_at-place-requires
place_at-place-requires c = c.requires.ready.fits.long

pub enter-requires : goal.enter-requires
enter-requires c = (c.requires, at_called _ c.requires.ready _ c.place.ensures c.place_at-place.ensures _ c.in-Nonterminal.is)

pub back-requires : goal.back-requires
back-requires c = (c.requires, place-owner _ _ c.place.ensures c.place_at-place.ensures)

pub returns-in-Token : goal.returns-in-Token
returns-in-Token c = at-token _ _ c.place.ensures c.place_at-place.ensures _ _ _ c.requires.room c.in-Token.is

pub returns-in-Nonterminal : goal.returns-in-Nonterminal
returns-in-Nonterminal c = grow-cast (at_call _ _ c.place.ensures c.place_at-place.ensures _ _ c.in-Nonterminal.is) c.enter.ensures

pub returns-in-End : goal.returns-in-End
returns-in-End c = grow-cast (at-end _ _ c.place.ensures c.place_at-place.ensures _ c.in-End.is) c.back.ensures
