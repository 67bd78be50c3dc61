-- What closing relies on in a grammar: every place that it names is one of a production, the end place or the one past it.
use mathlib.Core.Path.{◌≡◌}
use mathlib.Core.Logic.{◌⊎◌, inl, inr}
use mathlib.Core.Option.{some}
use Prim.Native.Nat.{ℕ, suc, ◌≤◌, ◌<◌}
use native.Mathlib.Omega.{arith}
use lib.Dec.{T}
use lib.ListN.{length}
use Rattle.base.proofs.Booleans.{clash}
use Rattle.grammar.specs.declared.Symbol.{Symbol}
use Rattle.grammar.specs.declared.Symbol.TheVariants.{Token, Nonterminal, End}
use Rattle.grammar.specs.Limits.{max_productions, max_places, end_place, end_mark, nobody}
use Rattle.grammar.specs.Decode.{Rules, Legal}
use Rattle.grammar.specs.Grammar.{Grammar, facing, owner, admits, alternatives, first, size_all, compile, Limited}
use Rattle.grammar.proofs.OrderedLaws.{compile-ordered}
use Rattle.grammar.proofs.PlaceLaws.{Faces, compile-faces, compile-within, compile-end-only}
use Rattle.grammar.proofs.OwnerLaws.{compile-unowned, compile-first, compile-next}
use Rattle.derivation.proofs.CountLaws.{compile-few}

pub record Bounded (g : Grammar) : Type 0 where
  pub small : g.size ≤ max_places
  pub begins : (a b f : ℕ) → first g a b ≡ some f → f < g.size
  pub goes_on : (p : ℕ) → p < g.size → ¬ (facing g p ≡ End) → suc p < g.size
  pub calls : (p a : ℕ) → facing g p ≡ Nonterminal a → p < g.size
  pub named : (p a : ℕ) → facing g p ≡ Nonterminal a → a < nobody
  pub tokens : (p k : ℕ) → facing g p ≡ Token k → (p < g.size) ⊎ (p ≡ end_place)
  pub end-only : (p k : ℕ) → facing g p ≡ Token k → T (admits g k end_mark) → p ≡ end_place
  pub past : facing g (suc end_place) ≡ End
  pub unowned : (p : ℕ) → g.size ≤ p → owner g p ≡ nobody
  pub few : (a : ℕ) → length (alternatives g a) ≤ max_productions

-- ---- compiled rules
module _ (r : Rules) (limits : Limited r) where
  compile-named : (p a : ℕ) → facing (compile r) p ≡ Nonterminal a → a < nobody
  compile-named p a e = go (compile-faces r limits p) e
    where
      go : {s : Symbol} → Faces r.kinds (length r.productions) (size_all r.productions) end_place p s → s ≡ Nonterminal a → a < nobody
      go (Faces.end q) e = clash (cc)
      go (Faces.mark l q) e = clash (cc)
      go (Faces.legal l q) e = let y : Legal r.kinds (length r.productions) (Nonterminal a) = rw e at q in omega (arith, limits.few)

  compile-tokens : (p k : ℕ) → facing (compile r) p ≡ Token k → (p < size_all r.productions) ⊎ (p ≡ end_place)
  compile-tokens p k e = go (compile-faces r limits p) e
    where
      go : {s : Symbol} → Faces r.kinds (length r.productions) (size_all r.productions) end_place p s → s ≡ Token k
          → (p < size_all r.productions) ⊎ (p ≡ end_place)
      go (Faces.end q) e = clash (cc)
      go (Faces.mark l q) e = inr l
      go (Faces.legal l q) e = inl l

  -- every grammar that is read from bytes
  pub compile-bounded : Bounded (compile r)
  unfolding compile
  compile-bounded = record {
    small = limits.small;
    begins = compile-first r limits;
    goes_on = compile-next r limits;
    calls = compile-within r limits;
    named = compile-named;
    tokens = compile-tokens;
    end-only = compile-end-only r limits;
    past = (compile-ordered r limits).end-past;
    unowned = compile-unowned r limits;
    few = compile-few r limits;
  }
