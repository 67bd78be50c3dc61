-- Compiling keeps the rules: production b of nonterminal a of the table of places is the one that was written.
use mathlib.Core.Path.{◌≡◌, refl, sym, ap, ◌∙◌}
use mathlib.Core.Option.{Option, none, some}
use mathlib.Core.List.{List, [], ◌∷◌, ◌++◌, append_assoc}
use Prim.Native.Nat.{ℕ, zero, suc, ◌+◌, ◌-◌}
use native.Mathlib.Omega.{arith}
use lib.ListN.{length, get_or, get_elem?, drop, replicate, length-append}
use lib.Seq.{drop_at}
use Rattle.grammar.specs.Types.{Symbol, Token, Nonterminal, End, Place}
use Rattle.grammar.specs.Limits.{max_places, end_mark, nobody}
use Rattle.base.specs.Lists.{AllOf}
use Rattle.grammar.specs.Decode.{Rules, Legal, Production, Alternatives}
use Rattle.grammar.specs.Grammar.{Grammar, at, nowhere, first, alternatives, spell, suffix, production, lay_one, lay_each, lay_all, size_each}
use Rattle.grammar.specs.Grammar.{size_all, starts_each, starts_all, padded, compile, Limited, admits, of_places}
use Rattle.grammar.specs.Derivation.{oneth, of_rules}

-- ---- how many places rules have
pub length-one : (a : ℕ) (β : List Symbol) → length (lay_one a β) ≡ suc (length β)
unfolding lay_one
length-one a [] = refl
length-one a (x ∷ β) = ap suc (length-one a β)

pub length-each : (a : ℕ) (l : List (List Symbol)) → length (lay_each a l) ≡ size_each l
unfolding lay_each size_each
length-each a [] = refl
length-each a (β ∷ l) = length-append (lay_one a β) (lay_each a l) ∙ omega (arith, length-one a β, length-each a l)

pub length-all : (a : ℕ) (l : List (List (List Symbol))) → length (lay_all a l) ≡ size_all l
unfolding lay_all size_all
length-all a [] = refl
length-all a (n ∷ l) = length-append (lay_each a n) (lay_all (suc a) l) ∙ omega (arith, length-each a n, length-all (suc a) l)

-- ---- what they spell
-- the symbols from a place on, where there is one
abbrev spelled : List Place → Option ℕ → Option (List Symbol)
spelled x none = none
spelled x (some f) = some (spell (drop f x))

module _ (t n : ℕ) where
  -- the places of a production spell its symbols
  spell_one : (a : ℕ) (β : List Symbol) (rest : List Place) → AllOf (Legal t n) β → spell (lay_one a β ++ rest) ≡ β
  unfolding spell lay_one
  spell_one a [] rest h = refl
  spell_one a (Token k ∷ β) rest h = ap (λ (l : List Symbol). Token k ∷ l) (spell_one a β rest h.1)
  spell_one a (Nonterminal b ∷ β) rest h = ap (λ (l : List Symbol). Nonterminal b ∷ l) (spell_one a β rest h.1)
  spell_one a (End ∷ β) rest h = absurd h.0

  -- the productions of one nonterminal, laid out behind others
  each-spelled : (a : ℕ) (l : List (List Symbol)) (pre rest : List Place) (o : ℕ) → length pre ≡ o → AllOf (Production t n) l → (i : ℕ)
      → spelled (pre ++ (lay_each a l ++ rest)) (get_elem? (starts_each o l) i) ≡ get_elem? l i
  unfolding starts_each lay_each
  each-spelled a [] pre rest o e h i = refl
  each-spelled a (β ∷ l) pre rest o e h zero =
      ap some (ap spell (ap (drop o) (ap (λ (x : List Place). pre ++ x) (append_assoc (lay_one a β) (lay_each a l) rest))
      ∙ drop_at pre (lay_one a β ++ (lay_each a l ++ rest)) o e)
      ∙ spell_one a β (lay_each a l ++ rest) h.0.1)
  each-spelled a (β ∷ l) pre rest o e h (suc i) =
      let k : length (pre ++ lay_one a β) ≡ o + suc (length β) = length-append pre (lay_one a β) ∙ omega (arith, e, length-one a β) in
      ap (λ (x : List Place). spelled x (get_elem? (starts_each (o + suc (length β)) l) i))
      (ap (λ (x : List Place). pre ++ x) (append_assoc (lay_one a β) (lay_each a l) rest) ∙ sym (append_assoc pre (lay_one a β) (lay_each a l ++ rest)))
      ∙ each-spelled a l (pre ++ lay_one a β) rest (o + suc (length β)) k h.1 i

  -- those of all nonterminals
  all-spelled : (a : ℕ) (l : List (List (List Symbol))) (pre rest : List Place) (o : ℕ) → length pre ≡ o → AllOf (Alternatives t n) l → (c b : ℕ)
      → spelled (pre ++ (lay_all a l ++ rest)) (oneth (get_or (starts_all o l) c []) b) ≡ oneth (get_or l c []) b
  unfolding starts_all lay_all
  all-spelled a l pre rest o e h c zero = refl
  all-spelled a [] pre rest o e h c (suc b) = refl
  all-spelled a (y ∷ l) pre rest o e h zero (suc b) =
      ap (λ (x : List Place). spelled (pre ++ x) (get_elem? (starts_each o y) b)) (append_assoc (lay_each a y) (lay_all (suc a) l) rest)
      ∙ each-spelled a y pre (lay_all (suc a) l ++ rest) o e h.0.2 b
  all-spelled a (y ∷ l) pre rest o e h (suc c) (suc b) =
      let k : length (pre ++ lay_each a y) ≡ o + size_each y = length-append pre (lay_each a y) ∙ omega (arith, e, length-each a y) in
      ap (λ (x : List Place). spelled x (get_elem? (get_or (starts_all (o + size_each y) l) c []) b))
      (ap (λ (x : List Place). pre ++ x) (append_assoc (lay_each a y) (lay_all (suc a) l) rest)
      ∙ sym (append_assoc pre (lay_each a y) (lay_all (suc a) l ++ rest)))
      ∙ all-spelled (suc a) l (pre ++ lay_each a y) rest (o + size_each y) k h.1 c (suc b)

by_first : (g : Grammar) (a b : ℕ) → production g a b ≡ spelled g.places (first g a b)
unfolding production suffix
by_first g a b = go (first g a b)
  where
    go : (o : Option ℕ) → elim o [ none ↦ none | some f ↦ some (spell (drop f g.places)) ] ≡ spelled g.places o
    go none = refl
    go (some f) = refl

-- the rules of a compiled grammar are those that were written
pub compile-production : (r : Rules) → Limited r → (a b : ℕ) → production (compile r) a b ≡ oneth (get_or r.productions a []) b
unfolding compile alternatives padded
compile-production r h a b =
    by_first (compile r) a b
    ∙ all-spelled r.kinds (length r.productions) 0 r.productions []
    (replicate (max_places - length (lay_all 0 r.productions)) nowhere ++ (at nobody (Token end_mark) ∷ [])) 0 refl h.each a b

-- so the table of places holds the syntax that the rules say
pub same-syntax : (r : Rules) → Limited r → of_places (compile r) ≡ of_rules r
unfolding admits
same-syntax r h = λ i. record { admits = (of_rules r).admits; production = λ a b. compile-production r h a b i }
