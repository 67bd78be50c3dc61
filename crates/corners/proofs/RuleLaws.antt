-- The first places of productions stand rule behind rule in the tables, so that one walk over all of them meets each production once, and each place says
-- whose production it begins.
use mathlib.Core.Path.{◌≡◌, refl, sym, ◌∙◌}
use mathlib.Core.Option.{some}
use mathlib.Core.List.{List}
use Prim.Native.Nat.{ℕ, zero, suc, ◌+◌, ◌-◌, ◌%◌, ◌≤◌, ◌<◌}
use native.Mathlib.Omega.{arith}
use native.Mathlib.Decide.{dec_lt}
use lib.ListN.{length, get_or, get_elem?}
use Rattle.base.proofs.Lists.{slice_get, slice-from}
use Rattle.grammar.specs.declared.Symbol.{Symbol}
use Rattle.grammar.specs.declared.Place.{Place}
use Rattle.grammar.specs.Limits.{max_nonterminals}
use Rattle.grammar.specs.Grammar.{place_at, facing, owner, alternatives}
use Rattle.grammar.specs.inside.Tables.{firsts_at, corners_at, grammar_in, nonterminals_in, rule_at, TablesFit}
use Rattle.grammar.proofs.WordLaws.{owner_of, alternatives-in}

-- a production whose first place is told before word k of the tables is one of a's, and begins with s
abbrev pub Stands : List ℕ → ℕ → ℕ → Symbol → Type 0
Stands t k a s =
    (j : ℕ) × (firsts_at ≤ j) × (j < k) × (owner (grammar_in t) (get_or t j 0) ≡ a) × (facing (grammar_in t) (get_or t j 0) ≡ s)

module _ (t : List ℕ) (fits : TablesFit t) where
  -- no rule goes on behind the last one
  rule-upto : (n a : ℕ) → n ≤ nonterminals_in t → a < n → rule_at t (suc a) ≤ rule_at t n
  rule-upto zero a h l = absurd (omega arith)
  rule-upto (suc n) a h l = go (dec_lt a n) (rule-upto n a (omega arith))
    where
      go : Dec (a < n) → (a < n → rule_at t (suc a) ≤ rule_at t n) → rule_at t (suc a) ≤ rule_at t (suc n)
      go (yes m) rec = omega (arith, rec m, fits.ordered n (omega arith))
      go (no m) rec = let e : n ≡ a = omega arith in rw e (omega arith)

  -- every word of theirs belongs to one of them
  rule-of : (n k : ℕ) → n ≤ nonterminals_in t → firsts_at ≤ k → k < rule_at t n → (a : ℕ) × (a < n) × (rule_at t a ≤ k) × (k < rule_at t (suc a))
  rule-of zero k h l m = absurd (omega (arith, fits.begins))
  rule-of (suc n) k h l m = go (dec_lt k (rule_at t n)) (rule-of n k (omega arith) l)
    where
      go : Dec (k < rule_at t n) → (k < rule_at t n → (a : ℕ) × (a < n) × (rule_at t a ≤ k) × (k < rule_at t (suc a)))
          → (a : ℕ) × (a < suc n) × (rule_at t a ≤ k) × (k < rule_at t (suc a))
      go (yes q) rec = let (a, x, y, z) = rec q in (a, omega arith, y, z)
      go (no q) rec = (n, omega arith, omega arith, m)

  rule-inside : (a : ℕ) → a < nonterminals_in t → rule_at t (suc a) ≤ length t
  rule-inside a l = omega (arith, fits.within a l, fits.long)

  pub rules-within : rule_at t (nonterminals_in t) ≤ corners_at
  rules-within = go (nonterminals_in t) refl
    where
      go : (n : ℕ) → nonterminals_in t ≡ n → rule_at t n ≤ corners_at
      go zero e = omega (arith, fits.begins)
      go (suc n) e = fits.within n (omega (arith, e))

  pub rules-begin : firsts_at ≤ rule_at t (nonterminals_in t)
  unfolding rule_at
  rules-begin = omega arith

  word-owner : (k : ℕ) → firsts_at ≤ k → k < rule_at t (nonterminals_in t) → owner (grammar_in t) (get_or t k 0) < nonterminals_in t
  word-owner k l m = let (a, x, y, z) = rule-of (nonterminals_in t) k (omega arith) l m in omega (arith, fits.owns a k x y z)

  -- whose production it is, as the code tells
  module _ (k f : ℕ) (l : firsts_at ≤ k) (m : k < rule_at t (nonterminals_in t)) (q : f ≡ get_or t k 0) {x : Place} (e : x ≡ place_at (grammar_in t) f) where
    pub owner-told : (owner (grammar_in t) f ≡ x.owner % max_nonterminals) × (x.owner % max_nonterminals < nonterminals_in t)
    owner-told =
        let o : owner (grammar_in t) f < nonterminals_in t = rw q (word-owner k l m) in
        let y = owner_of (grammar_in t) f e in
        (omega (arith, fits.few), omega (arith, fits.few))

  -- all productions of a nonterminal are met, and no others are taken for its own
  module _ (a : ℕ) (s : Symbol) where
    pub stands-alternative : Stands t (rule_at t (nonterminals_in t)) a s
        → (i f : ℕ) × (get_elem? (alternatives (grammar_in t) a) i ≡ some f) × (facing (grammar_in t) f ≡ s)
    stands-alternative (j, l, m, o, e) =
        let (b, x, y, z) = rule-of (nonterminals_in t) j (omega arith) l m in
        let same : b ≡ a = sym (fits.owns b j x y z) ∙ o in
        let at : rule_at t b + (j - rule_at t b) ≡ j = omega arith in
        let here = slice_get t (rule_at t (suc b)) (j - rule_at t b) (rule_at t b) (omega arith) (rule-inside b x) in
        (j - rule_at t b, get_or t j 0, rw (← same, alternatives-in t b x) (rw at at here), e)

    pub alternative-stands : (i f : ℕ) → a < nonterminals_in t → get_elem? (alternatives (grammar_in t) a) i ≡ some f → facing (grammar_in t) f ≡ s
        → Stands t (rule_at t (nonterminals_in t)) a s
    unfolding rule_at
    alternative-stands i f l d e =
        let (m, v) = slice-from t (rule_at t (suc a)) i (rule_at t a) f (rule-inside a l) (rw (alternatives-in t a l) at d) in (
          rule_at t a + i,
          omega arith,
          omega (arith, rule-upto (nonterminals_in t) a (omega arith) l),
          fits.owns a (rule_at t a + i) l (omega arith) m,
          rw (← v) e,
        )
