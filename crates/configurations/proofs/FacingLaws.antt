-- What a place of the tables says of a configuration that stands there.
use mathlib.Core.Path.{◌≡◌, sym, ap, ◌∙◌}
use Prim.Native.Nat.{ℕ}
use Rattle.grammar.specs.declared.Symbol.{Symbol}
use Rattle.grammar.specs.declared.Place.{Place}
use Rattle.grammar.specs.Grammar.{Grammar, place_at, facing, owner}
use Rattle.grammar.proofs.WordLaws.{facing-of}

module _ (g : Grammar) (place : ℕ) {p : ℕ} {x : Place} (at : p ≡ place) (is : x ≡ place_at g p) where
  pub place-faces : (s : Symbol) → x.symbol ≡ s → facing g place ≡ s
  place-faces s e = ap (facing g) (sym at) ∙ facing-of g p is e

  pub place-owner : x.owner ≡ owner g place
  unfolding owner
  place-owner = ap (λ (y : Place). y.owner) is ∙ ap (owner g) at
