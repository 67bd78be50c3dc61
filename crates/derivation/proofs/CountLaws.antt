-- How many productions a nonterminal has: as many as its first places in the tables, one at least, and no more than the limit.
use mathlib.Core.Path.{◌≡◌, refl, ap, ◌∙◌}
use mathlib.Core.Option.{some}
use mathlib.Core.List.{List, [], ◌∷◌}
use Prim.Native.Nat.{ℕ, zero, suc, ◌+◌, ◌-◌, ◌≤◌, ◌<◌}
use native.Mathlib.Omega.{arith}
use lib.ListN.{length, get_or}
use lib.Seq.{length-slice}
use Rattle.base.proofs.Booleans.{clash}
use Rattle.grammar.specs.declared.Symbol.{Symbol}
use Rattle.grammar.specs.declared.Symbol.TheVariants.{Nonterminal}
use Rattle.grammar.specs.Limits.{max_productions, end_place}
use Rattle.base.specs.Lists.{AllOf}
use Rattle.grammar.specs.Decode.{Rules, Alternatives, Legal}
use Rattle.grammar.specs.Grammar.{facing, alternatives, first, size_each, size_all, starts_each, starts_all, compile, Limited}
use Rattle.grammar.specs.inside.Tables.{grammar_in, nonterminals_in, rule_at}
use Rattle.grammar.proofs.WordLaws.{length-starts-in}
use Rattle.grammar.proofs.PlaceLaws.{length-starts_all, Faces, compile-faces}
use Rattle.derivation.specs.inside.Ready.{Ready}
use Rattle.derivation.proofs.Stretches.{get_in}
use Rattle.derivation.proofs.FirstLaws.{rules-are, rule-within}

pub length-starts_each : (o : ℕ) (l : List (List Symbol)) → length (starts_each o l) ≡ length l
unfolding starts_each
length-starts_each o [] = refl
length-starts_each o (β ∷ l) = ap suc (length-starts_each (o + suc (length β)) l)

starts-some : (k n o : ℕ) (l : List (List (List Symbol))) → AllOf (Alternatives k n) l → (a : ℕ) → a < length l
    → 1 ≤ length (get_or (starts_all o l) a [])
unfolding starts_all
starts-some k n o [] h a m = absurd (omega arith)
starts-some k n o (x ∷ l) h zero m = let z = h.0.0 in omega (arith, length-starts_each o x)
starts-some k n o (x ∷ l) h (suc a) m = starts-some k n (o + size_each x) l h.1 a (omega arith)

starts-few : (k n o : ℕ) (l : List (List (List Symbol))) → AllOf (Alternatives k n) l → (a : ℕ) → length (get_or (starts_all o l) a []) ≤ max_productions
unfolding starts_all
starts-few k n o [] h a = omega arith
starts-few k n o (x ∷ l) h zero = let z = h.0.1 in omega (arith, length-starts_each o x)
starts-few k n o (x ∷ l) h (suc a) = starts-few k n (o + size_each x) l h.1 a

-- in every grammar that is read from bytes each nonterminal has a production
module _ (r : Rules) (limits : Limited r) where
  pub compile-some : (a : ℕ) → a < length r.productions → 1 ≤ length (alternatives (compile r) a)
  unfolding alternatives compile
  compile-some a h = starts-some r.kinds (length r.productions) 0 r.productions limits.each a h

  pub compile-few : (a : ℕ) → length (alternatives (compile r) a) ≤ max_productions
  unfolding alternatives compile
  compile-few a = starts-few r.kinds (length r.productions) 0 r.productions limits.each a

  -- and so does each that a place faces
  pub compile-called : (p a : ℕ) → facing (compile r) p ≡ Nonterminal a → 1 ≤ length (alternatives (compile r) a)
  compile-called p a e = go (compile-faces r limits p) e
    where
      go : {s : Symbol} → Faces r.kinds (length r.productions) (size_all r.productions) end_place p s → s ≡ Nonterminal a
          → 1 ≤ length (alternatives (compile r) a)
      go (Faces.end q) e = clash (cc)
      go (Faces.mark l q) e = clash (cc)
      go (Faces.legal l q) e = let y : Legal r.kinds (length r.productions) (Nonterminal a) = rw e at q in compile-some a y

pub alternatives-few : (t : List ℕ) → Ready t → (a : ℕ) → length (alternatives (grammar_in t) a) ≤ max_productions
alternatives-few t h a = rw h.says (compile-few h.rules h.limited a)

module _ (t : List ℕ) (h : Ready t) (a : ℕ) (l : a < nonterminals_in t) where
  pub count-is : {s e : ℕ} → s ≡ rule_at t a → e ≡ rule_at t (a + 1) → length (alternatives (grammar_in t) a) ≡ e - s
  count-is {s} {e} p q = ap length (rules-are t h a l p q) ∙ length-slice s e t (rule-within t h a l p q)

  pub one-at-least : 1 ≤ length (alternatives (grammar_in t) a)
  unfolding compile
  one-at-least =
      let r = h.rules in
      let n : length (grammar_in t).starts ≡ length r.productions = ap (λ g. length g.starts) h.says ∙ length-starts_all 0 r.productions in
      rw h.says (compile-some r h.limited a (omega (arith, n, length-starts-in t)))

  -- the first places of its productions stand in order
  pub count-order : {s e : ℕ} → s ≡ rule_at t a → e ≡ rule_at t (a + 1) → s < e
  count-order p q = omega (arith, count-is p q, one-at-least)

  pub first-within : (b : ℕ) → 1 ≤ b → b ≤ length (alternatives (grammar_in t) a) → (f : ℕ) × (first (grammar_in t) a b ≡ some f)
  first-within zero m k = absurd (omega arith)
  first-within (suc b) m k = get_in (alternatives (grammar_in t) a) b k
