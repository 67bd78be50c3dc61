-- The goals of `search::given::Search::walk` that are not found.
use mathlib.Core.Path.{refl}
use native.Mathlib.Omega.{arith}
use Rattle.std.proofs.lemmas.Result.{err_from_is_err_and}
use Rattle.grammar.proofs.WordLaws.{facing-of}
use Rattle.derivation.proofs.ReadyLaws.{ready-size}
use Rattle.search.proofs.WalkSteps.{walking-begin, walking_on, walked_end, walked-stops, no_end, token-goes, call-goes}
use Rattle.search.proofs.given.Search.walk.Goals as goal

pub loop-k-init : goal.loop-k-init
loop-k-init c = (omega arith, walking-begin _ _ _ _ _ _ _ c.requires.place c.requires.within)

pub overflow_add-p : goal.overflow_add-p
overflow_add-p c = omega (arith, c.loop-k.invariant.1.place, ready-size _ c.requires.searching.given.ready)

pub returns-in-End : goal.returns-in-End
returns-in-End c =
    let faces = facing-of _ _ c.place_at.ensures c.in-End.is in
    record {
      spent = c.loop-k.invariant.0;
      raised = c.loop-k.invariant.1.raised;
      walked = walked_end c.requires.searching c.loop-k.invariant.1 faces;
    }

pub over_token-requires : goal.over_token-requires
over_token-requires c =
    let faces = facing-of _ _ c.place_at.ensures c.in-Token.is in
    let here = c.loop-k.invariant.1 in
    record {
      walk = record { searching = c.requires.searching; sized = c.requires.sized; place = here.place; within = here.within };
      faces = faces;
      goes = token-goes;
    }

pub over_call-requires : goal.over_call-requires
over_call-requires c =
    let faces = facing-of _ _ c.place_at.ensures c.in-Nonterminal.is in
    let here = c.loop-k.invariant.1 in
    record {
      walk = record { searching = c.requires.searching; sized = c.requires.sized; place = here.place; within = here.within };
      faces = faces;
      goes = call-goes;
    }

pub returns-in_err-x-in-Token : goal.returns-in_err-x-in-Token
returns-in_err-x-in-Token c =
    let p = err_from_is_err_and c.from_residual.result c.from_residual.ensures.1 in
    rw (p.1, p.2)
    (walked-stops c.requires.searching c.loop-k.invariant.1 refl refl c.loop-k.invariant.0 c.over_token.ensures c.in_err-x-in-Token.was)

pub loop-k-preserved-in-Token : goal.loop-k-preserved-in-Token
loop-k-preserved-in-Token c = (
  omega (arith, c.loop-k.invariant.0, c.over_token.ensures.spent),
  walking_on c.requires.searching c.loop-k.invariant.1 refl c.over_token.ensures c.in_ok-x-in-Token.was
      (no_end (facing-of _ _ c.place_at.ensures c.in-Token.is) token-goes),
)

pub returns-in_err-x-in-Nonterminal : goal.returns-in_err-x-in-Nonterminal
returns-in_err-x-in-Nonterminal c =
    let p = err_from_is_err_and c.from_residual-in_err-x-in-Nonterminal.result c.from_residual-in_err-x-in-Nonterminal.ensures.1 in
    rw (p.1, p.2)
    (walked-stops c.requires.searching c.loop-k.invariant.1 refl refl c.loop-k.invariant.0 c.over_call.ensures c.in_err-x-in-Nonterminal.was)

pub loop-k-preserved : goal.loop-k-preserved
loop-k-preserved c = (
  omega (arith, c.loop-k.invariant.0, c.over_call.ensures.spent),
  walking_on c.requires.searching c.loop-k.invariant.1 refl c.over_call.ensures c.in_ok-x-in-Nonterminal.was
      (no_end (facing-of _ _ c.place_at.ensures c.in-Nonterminal.is) call-goes),
)
