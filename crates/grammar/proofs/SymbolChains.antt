-- Chains over the symbols of a production: which symbols come, and that a closure may be called at each of them.
use mathlib.Core.Path.{◌≡◌, refl, sym, ap, ◌∙◌, subst}
use mathlib.Core.List.{List, [], ◌∷◌}
use Prim.Native.Nat.{ℕ, ◌<◌, ◌≤◌}
use native.Mathlib.Omega.{arith}
use lib.ListN.{length}
use Rattle.std.proofs.lemmas.Fn.{serves_by}
use Rattle.std.proofs.lemmas.Iterator.{YieldsList}
use Rattle.std.proofs.lemmas.Iterator.Consumers.{YieldsList-from_shown}
use Rattle.std.specs.Iterator.{Yields, CallableAtEachTurn}
use Rattle.grammar.specs.Types.{Symbol, Token, Nonterminal, End}
use Rattle.grammar.specs.Limits.{max_nonterminals}
use Rattle.grammar.specs.declared.production.Symbols.{Symbols}
use Rattle.grammar.specs.Grammar.{suffix}
use Rattle.grammar.specs.inside.Tables.{grammar_in, nonterminals_in, TablesFit}
use Rattle.grammar.specs.inside.Production.{symbols_left, Among, GivesSymbol}

-- the symbols that come are those that are left
pub symbols_come : (s : Symbols) → YieldsList GivesSymbol (λ x. x) s (symbols_left s)
symbols_come s = YieldsList-from_shown GivesSymbol (λ x. x) symbols_left (λ t u h. ap length h.0.0) (λ t x u h. h.0) s

-- the tables stay
same-tables : (l : List Symbol) (s t : Symbols) → Yields GivesSymbol s l t → t.tables.now ≡ s.tables.now
same-tables [] s t y = ap (λ (s : Symbols). s.tables.now) (sym y)
same-tables (x ∷ l) s t (j, h, y) = same-tables l j t y ∙ h.1

-- what may be called at each symbol that a grammar of so many nonterminals may have
pub symbols_serve : {P : Type 0} {R : P → Symbol → P → Type 0} {Q : P → Symbol → Type 0} {s : Symbols} {p : P} → ((x : Symbol) (q : P) → R p x q → q ≡ p)
    → ((x : Symbol) → Among (nonterminals_in s.tables.now) x → Q p x) → CallableAtEachTurn GivesSymbol R Q s p
symbols_serve {P} {R} {Q} {s} {p} same h =
    serves_by R (λ l q. q ≡ p) (λ l q x v e r. same x v (subst (λ (q : P). R q x v) e r)) GivesSymbol Q s p refl
    (λ l t q x u y g e. subst (λ (q : P). Q q x) (sym e) (h x (subst (λ (t : List ℕ). Among (nonterminals_in t) x) (same-tables l s t y) g.2)))

-- a symbol of tables that fit names none but one of the nonterminals that there can be
pub among-few : (t t' : List ℕ) → TablesFit t' → t ≡ t' → (x : Symbol) → Among (nonterminals_in t) x → Among max_nonterminals x
among-few t t' f e (Nonterminal a) m = let m' : a < nonterminals_in t' = rw e at m in omega (arith, f.few)
among-few t t' f e (Token k) m = tt
among-few t t' f e End m = tt
