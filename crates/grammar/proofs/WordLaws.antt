-- Symbols and places as words, and back.
use mathlib.Core.Path.{◌≡◌, refl, sym, ap, ◌∙◌}
use mathlib.Core.Bool.{Bool, true, false, cond}
use Prim.Native.Nat.{ℕ, zero, suc, ◌+◌, ◌-◌, ◌*◌, ◌/◌, ◌%◌, ◌≤◌, ◌<◌}
use native.Mathlib.Omega.{arith}
use native.Mathlib.Decide.{dec_lt}
use mathlib.Core.List.{List, [], ◌∷◌, map}
use lib.ListN.{length, get_or, take, length-take, length-map, get_or-eq_default, get_or-map}
use lib.Seq.{get_or-take, slice}
use lib.Dec.{eqb}
use borrow.Author.Tests.{eq-eqb, ne_eqb, eqb-true, eqb-false}
use Rattle.base.specs.Rounds.{up_from}
use Rattle.base.proofs.Lists.{length-up_from}
use Rattle.grammar.specs.Types.{Symbol, Token, Nonterminal, End, Place}
use Rattle.grammar.specs.Limits.{end_place, nobody}
use Rattle.grammar.specs.Decode.{written}
use Rattle.grammar.specs.Grammar.{Grammar, at, nowhere, place_at, facing, owner, alternatives}
use Rattle.grammar.specs.inside.Tables.{place_words, codes, owners, code_of, word_of, symbol_of, place_of, rule_at, starts_in, grammar_in, nonterminals_in}

-- ---- the code's ways through `symbol_of`
pub code-end : (c : ℕ) → c ≡ 0 → End ≡ symbol_of c
unfolding symbol_of
code-end c e = rw (eq-eqb c 0 e)

module _ (c : ℕ) (n : c ≡ 0 → ⊥) where
  pub code-token : c % 2 ≡ 1 → Token (c / 2) ≡ symbol_of c
  unfolding symbol_of
  code-token e = rw (ne_eqb c 0 n, eq-eqb (c % 2) 1 e)

  pub code-nonterminal : (c % 2 ≡ 1 → ⊥) → Nonterminal (c / 2 - 1) ≡ symbol_of c
  unfolding symbol_of
  code-nonterminal e = rw (ne_eqb c 0 n, ne_eqb (c % 2) 1 e)

-- ---- a written symbol's code
pub code-written : (v : ℕ) → code_of (written v) ≡ suc v
unfolding written
code-written v = go (eqb (v % 2) 0) refl
  where
    go : (b : Bool) → eqb (v % 2) 0 ≡ b → code_of (cond b (Token (v / 2)) (Nonterminal (v / 2))) ≡ suc v
    go true e = let h = eqb-true (v % 2) 0 e in omega arith
    go false e = let h = eqb-false (v % 2) 0 e in omega arith

pub word-written : (a v : ℕ) {r : ℕ} → r ≡ v + 1 + (a % owners + (owners - nobody)) % owners * codes → r ≡ word_of (at a (written v))
unfolding word_of
word-written a v e = omega (arith, e, code-written v)

-- ---- and back
pub symbol-of-code : (x : Symbol) → symbol_of (code_of x) ≡ x
symbol-of-code (Token t) =
    let h : suc (2 * t) / 2 ≡ t = omega arith in
    sym (code-token (suc (2 * t)) (λ z. omega arith) (omega arith)) ∙ ap Token h
symbol-of-code (Nonterminal a) =
    let h : suc (suc (2 * a)) / 2 - 1 ≡ a = omega arith in
    sym (code-nonterminal (suc (suc (2 * a))) (λ z. omega arith) (λ z. omega arith)) ∙ ap Nonterminal h
symbol-of-code End = sym (code-end 0 refl)

-- counting round from nobody, and back
turned : (o : ℕ) → o < owners → ((o % owners + (owners - nobody)) % owners + nobody) % owners ≡ o
turned o l = go (dec_lt o nobody)
  where
    low : o % owners ≡ o
    low = omega arith

    go : Dec (o < nobody) → ((o % owners + (owners - nobody)) % owners + nobody) % owners ≡ o
    go (yes h) = let q : (o + (owners - nobody)) % owners ≡ o + (owners - nobody) = omega arith in rw (low, q) (omega arith)
    go (no h) = let q : (o + (owners - nobody)) % owners ≡ o - nobody = omega arith in rw (low, q) (omega arith)

fields : (c f : ℕ) → c < codes → ((c + f * codes) % codes ≡ c) × ((c + f * codes) / codes ≡ f)
fields c f h = (omega arith, omega arith)

pub place-of-word : (x : Place) → code_of x.symbol < codes → x.owner < owners → place_of (word_of x) ≡ x
unfolding place_of word_of
place-of-word x h l =
    let q = fields (code_of x.symbol) ((x.owner % owners + (owners - nobody)) % owners) h in
    rw (q.0, q.1, turned x.owner l) (ap (at x.owner) (symbol-of-code x.symbol))

pub place-of-none : place_of 0 ≡ nowhere
unfolding place_of symbol_of
place-of-none = refl

-- ---- reading places out of tables
pub place-past : (t : List ℕ) (p : ℕ) {x : Place} → end_place < p → x ≡ place_of 0 → x ≡ place_at (grammar_in t) p
unfolding grammar_in
place-past t p h e =
    e ∙ place-of-none ∙ sym (get_or-eq_default (map place_of (take place_words t)) nowhere {n = p}
    (omega (arith, length-map (take place_words t) place_of, length-take place_words t)))

pub place_in : (t : List ℕ) (p : ℕ) {x : Place} → p ≤ end_place → x ≡ place_of (get_or t p 0) → x ≡ place_at (grammar_in t) p
unfolding grammar_in
place_in t p h e =
    e ∙ ap place_of (sym (get_or-take place_words t p 0 (omega arith))) ∙ sym (get_or-map place_of (take place_words t) p 0)
    ∙ ap (get_or (map place_of (take place_words t)) p) place-of-none

pub facing-of : (g : Grammar) (p : ℕ) {x : Place} {s : Symbol} → x ≡ place_at g p → x.symbol ≡ s → facing g p ≡ s
unfolding facing
facing-of g p e f = ap (λ (x : Place). x.symbol) (sym e) ∙ f

pub owner_of : (g : Grammar) (p : ℕ) {x : Place} → x ≡ place_at g p → x.owner ≡ owner g p
unfolding owner
owner_of g p e = ap (λ (y : Place). y.owner) e

pub facing-past : (t : List ℕ) (p : ℕ) → place_words ≤ p → facing (grammar_in t) p ≡ End
facing-past t p h = facing-of (grammar_in t) p (place-past t p h refl) (ap (λ (x : Place). x.symbol) place-of-none)

-- ---- the code of what a place faces
pub code-past : (t : List ℕ) (p : ℕ) → end_place < p → symbol_of 0 ≡ facing (grammar_in t) p
code-past t p h = sym (facing-past t p h ∙ code-end 0 refl)

pub code_in : (t : List ℕ) (p : ℕ) {w : ℕ} → p ≤ end_place → w ≡ get_or t p 0 → symbol_of (w % codes) ≡ facing (grammar_in t) p
unfolding place_of
code_in t p h e = sym (facing-of (grammar_in t) p (place_in t p h refl) (ap (λ (w : ℕ). symbol_of (w % codes)) (sym e)))

-- what a code tells of the place
module _ (g : Grammar) (p c : ℕ) (h : symbol_of c ≡ facing g p) where
  pub faces-end : c ≡ 0 → facing g p ≡ End
  faces-end e = sym (code-end c e ∙ h)

  pub faces-token : (c % 2 ≡ 0 → ⊥) → facing g p ≡ Token (c / 2)
  faces-token n = sym (code-token c (λ e. n (omega arith)) (omega (arith, n)) ∙ h)

  pub faces-nonterminal : c % 2 ≡ 0 → (c ≡ 0 → ⊥) → facing g p ≡ Nonterminal (c / 2 - 1)
  faces-nonterminal e n = sym (code-nonterminal c n (λ z. omega arith) ∙ h)

-- ---- the productions of a nonterminal in tables
starts-at : (t : List ℕ) (b n a : ℕ) → a < n → get_or (starts_in t (up_from b n)) a [] ≡ slice (rule_at t (b + a)) (rule_at t (suc (b + a))) t
unfolding starts_in up_from
starts-at t b zero a h = absurd (omega arith)
starts-at t b (suc n) zero h = let e : b + 0 ≡ b = omega arith in rw e
starts-at t b (suc n) (suc a) h = let e : b + suc a ≡ suc b + a = omega arith in rw e (starts-at t (suc b) n a (omega arith))

pub alternatives-in : (t : List ℕ) (a : ℕ) → a < nonterminals_in t → alternatives (grammar_in t) a ≡ slice (rule_at t a) (rule_at t (suc a)) t
unfolding alternatives grammar_in
alternatives-in t a h = let e : 0 + a ≡ a = omega arith in rw e at (starts-at t 0 (nonterminals_in t) a h)

pub length-starts-in : (t : List ℕ) → length (grammar_in t).starts ≡ nonterminals_in t
unfolding grammar_in starts_in
length-starts-in t = go (up_from 0 (nonterminals_in t)) ∙ length-up_from 0 (nonterminals_in t)
  where
    go : (l : List ℕ) → length (starts_in t l) ≡ length l
    go [] = refl
    go (x ∷ l) = ap suc (go l)
