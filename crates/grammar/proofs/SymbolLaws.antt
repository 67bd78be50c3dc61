-- The symbols of a production as they come one after another.
use mathlib.Core.Path.{◌≡◌, refl, sym, ◌∙◌}
use mathlib.Core.List.{List, [], ◌∷◌}
use Prim.Native.Nat.{ℕ, ◌+◌, ◌≤◌}
use native.Mathlib.Numerals.{add-one}
use native.Mathlib.Decide.{dec_le}
use native.Mathlib.Omega.{arith}
use Rattle.grammar.specs.Types.{Symbol, Token, Nonterminal, End}
use Rattle.grammar.specs.Limits.{end_place}
use Rattle.grammar.specs.Grammar.{Grammar, facing, before, suffix}
use Rattle.grammar.specs.inside.Tables.{grammar_in, nonterminals_in, TablesFit}
use Rattle.grammar.specs.inside.Production.{Among}
use Rattle.grammar.proofs.GrammarLaws.{suffix-is}
use Rattle.grammar.proofs.WordLaws.{facing-past}

pub suffix-ends : (g : Grammar) (p : ℕ) → facing g p ≡ End → suffix g p ≡ []
suffix-ends g p e = suffix-is g p ∙ rw e

module _ (t : List ℕ) (p : ℕ) (x : Symbol) (e : facing (grammar_in t) p ≡ x) (n : ¬ (x ≡ End)) where
  pub suffix-goes : suffix (grammar_in t) p ≡ x ∷ suffix (grammar_in t) (p + 1)
  suffix-goes = suffix-is (grammar_in t) p ∙ rw (e, add-one) (go x n)
    where
      go : (x : Symbol) → ¬ (x ≡ End) → {l : List Symbol} → before x l ≡ x ∷ l
      go (Token k) n = refl
      go (Nonterminal a) n = refl
      go End n = absurd (n refl)

  -- the place is one of those that the tables hold
  pub goes-within : p ≤ end_place
  goes-within = go (dec_le p end_place)
    where
      go : Dec (p ≤ end_place) → p ≤ end_place
      go (yes l) = l
      go (no l) = absurd (n (sym e ∙ facing-past t p (omega arith)))

  pub among-named : TablesFit t → Among (nonterminals_in t) x
  among-named f = go x e
    where
      go : (x : Symbol) → facing (grammar_in t) p ≡ x → Among (nonterminals_in t) x
      go (Token k) e = tt
      go (Nonterminal a) e = f.named p a e
      go End e = tt
