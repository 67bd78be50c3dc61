-- `grammar::production::Symbols` meets the contract of its `next`: a place begins what it faces and what the next place begins.
use mathlib.Core.Path.{refl, ap}
use native.Mathlib.Omega.{arith}
use lib.ListN.{length}
use Rattle.grammar.proofs.WordLaws.{facing-of}
use Rattle.grammar.proofs.SymbolLaws.{suffix-ends, suffix-goes, goes-within, among-named}
use Rattle.grammar.proofs.production.SymbolsIterator.next.Goals as goal

pub overflow_add-self : goal.overflow_add-self
overflow_add-self c =
    let l = goes-within _ _ _ (facing-of _ _ c.place_at.ensures refl) c.in_default.not-End in omega arith

pub returns-in-End-clause-steps : goal.returns-in-End-clause-steps
returns-in-End-clause-steps c = let e = suffix-ends _ _ (facing-of _ _ c.place_at.ensures c.in-End.is) in ((e, e), refl, tt)

pub returns-in_default : goal.returns-in_default
returns-in_default c =
    let f = facing-of _ _ c.place_at.ensures refl in
    let e = suffix-goes _ _ _ f c.in_default.not-End in
    record {
      steps = (e, refl, among-named _ _ _ f c.in_default.not-End c.requires);
      goes = record { on = λ _. (c.requires, tt, let l = ap length e in omega (arith, l)); keeps = c.requires; rests = λ _. tt };
    }
