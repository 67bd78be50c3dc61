-- `machine::choice::lowest` meets its contract: the first place in the list of the nonterminal's productions that can end in s is its lowest alternative.
use borrow.Author.Tests.{tests}
use mathlib.Core.Bool.{Bool}
use mathlib.Core.Path.{◌≡◌, refl}
use Prim.Native.Nat.{ℕ, ◌+◌, ◌<◌}
use native.Mathlib.Omega.{arith}
use Rattle.std.proofs.Common.{rules}
use Rattle.std.proofs.lemmas.Iterator.{YieldsList-from_slice}
use Rattle.std.proofs.lemmas.Iterator.Search.{position_from_yields_List}
use Rattle.std.proofs.lemmas.Iterator.Adapters.{serves_from_places, position_from-zero}
use Rattle.grammar.specs.inside.Tables.{grammar_in}
use Rattle.cells.proofs.Spots.{spot_in}
use Rattle.positions.specs.inside.Positions.{meets_of}
use Rattle.positions.specs.inside.Words.{set_at}
use Rattle.cells.specs.inside.Chart.{spot}
use Rattle.std.specs.Prelude.{option_map}
use Rattle.machine.specs.inside.Choice.{ends_in}
use Rattle.machine.proofs.CallLaws.{lent_of}
use Rattle.machine.proofs.LowestLaws.{placed-lowest, first-inside}
use Rattle.machine.proofs.choice.lowest.Goals as goal

pub position-requires-clause-callable : goal.position-requires-clause-callable
position-requires-clause-callable c =
    serves_from_places (YieldsList-from_slice c.first_places.result.now cc) (λ x q k. search (rules, tests)) (λ x k l e _ _ _ _ _ _ _ _ from _ _.
    let inside : x.now < (grammar_in c.args.tables.now).size
    = first-inside c.args.tables.now c.requires.ready c.args.a k x.now (rw c.first_places.ensures at l) (rw c.first_places.ensures at e) in
    spot_in c.size-places.result c.requires.lent.tokens from.result c.args.i c.args.ws.now (lent_of c.size-places.ensures c.requires.lent.lent)
    (omega (arith, from.ensures, c.size-places.ensures)) c.requires.lent.here)

pub returns : goal.returns
unfolding ends_in
returns c =
    let P : ℕ → Bool = λ f. meets_of (set_at c.args.ws.now (spot c.size-places.result f c.args.i)) c.args.s.words in
    let e = position_from_yields_List P _ _ c.position.result c.position.ensures.ran (YieldsList-from_slice c.first_places.result.now cc)
    (λ x b q k. search (rules, tests)) in
    let z : c.map.result ≡ option_map (λ k. k + 1) c.position.result = search rules in
    rw (z, e, position_from-zero P c.first_places.result.now, c.first_places.ensures)
    (placed-lowest c.args.tables.now c.args.ws.now c.args.a c.args.i c.args.s.words P (λ f. rw c.size-places.ensures refl))
