-- What soundness of the rules gives the readings: in the table of places no nonterminal is left recursive and every one derives something, so what is
-- left of every production does; and the start symbol has a production.
use mathlib.Core.Path.{◌≡◌, refl, subst⁻¹}
use mathlib.Core.Option.{some}
use mathlib.Core.List.{List, [], ◌∷◌}
use Prim.Native.Nat.{ℕ, ◌<◌}
use native.Mathlib.Omega.{arith}
use lib.ListN.{length}
use Rattle.base.proofs.Booleans.{clash}
use Rattle.grammar.specs.declared.Symbol.{Symbol}
use Rattle.grammar.specs.declared.Symbol.TheVariants.{Nonterminal}
use Rattle.grammar.specs.Decode.{Rules}
use Rattle.grammar.specs.Grammar.{Grammar, first, compile, Limited, of_places}
use Rattle.grammar.specs.Derivation.{Syntax, Leftmost}
use Rattle.grammar.proofs.GrammarLaws.{production-from}
use Rattle.grammar.proofs.CompileLaws.{same-syntax}
use Rattle.grammar.proofs.PlaceLaws.{length-starts_all}
use Rattle.reader.proofs.FitsLaws.{compile-named}
use Rattle.closures.specs.Textbook.{Productive, LeftRecursive}
use Rattle.soundness.specs.Verdicts.{IsSound}
use Rattle.derivation.specs.inside.Reach.{Rich}
use Rattle.derivation.proofs.ViableLaws.{rich}

-- a derivation from a nonterminal begins with one of its productions
some_first : (g : Grammar) (a : ℕ) {γ : List Symbol} {r w : List ℕ} → Leftmost (of_places g) γ r w → γ ≡ Nonterminal a ∷ [] → (b : ℕ) × (f : ℕ)
    × (first g a b ≡ some f)
some_first g a Leftmost.done e = clash (cc)
some_first g a (Leftmost.match c x) e = clash (cc)
some_first g a (Leftmost.expand {a = a'} {b = b} c x) e = let z : a' ≡ a = cc in let (f, d, q) = production-from g a b (rw z at c) in (b, f, d)

module _ (r : Rules) (limits : Limited r) (sound : IsSound r) where
  starts-length : length (compile r).starts ≡ length r.productions
  unfolding compile
  starts-length = length-starts_all 0 r.productions

  productive-all : (a : ℕ) → a < length (compile r).starts → Productive (of_places (compile r)) a
  productive-all a l = subst⁻¹ (λ (g : Syntax). Productive g a) (same-syntax r limits) (sound.productive a (omega (arith, starts-length)))

  pub sound-straight : (a : ℕ) → ¬ LeftRecursive (of_places (compile r)) a
  sound-straight a = subst⁻¹ (λ (g : Syntax). ¬ LeftRecursive g a) (same-syntax r limits) (sound.straight a)

  pub sound-rich : Rich (compile r)
  sound-rich = rich (compile r) productive-all (λ p a q. omega (arith, starts-length, compile-named r limits p a q))

  pub sound-first : (b : ℕ) × (f : ℕ) × (first (compile r) 0 b ≡ some f)
  sound-first =
      let (w, (d, x)) = productive-all 0 (omega (arith, starts-length, limits.some)) in
      some_first (compile r) 0 x refl
