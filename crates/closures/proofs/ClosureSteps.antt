-- The closure's loops by cases, as the code meets them.
use mathlib.Core.Path.{◌≡◌, refl, sym, ap, ap₂, ◌∙◌}
use mathlib.Core.Logic.{◌⊎◌, inl, inr}
use mathlib.Core.Bool.{Bool, true, false, not, ◌&&◌, ◌||◌}
use mathlib.Core.List.{List, [], ◌∷◌}
use Prim.Native.Nat.{ℕ, ◌+◌, ◌-◌, ◌≤◌, ◌<◌, ◌^◌}
use native.Mathlib.Numerals.{add-one}
use native.Mathlib.Omega.{arith}
use lib.Bits.{bit_and, bit_xor}
use lib.Dec.{T, eqb, eqb→eq, eqb_refl}
use lib.ListN.{length, get_or}
use borrow.Author.Tests.{not-true, not-false, ne_eqb}
use Rattle.std.specs.List.{list_all}
use Rattle.base.specs.Bits.{word_bits, test_bit, set_bit, HighestIs}
use Rattle.base.proofs.Booleans.{clash, and_T, T_and, and-all, or-T, T-or-l, T-or-r, true→T, T→true, ¬T→false}
use Rattle.base.proofs.Bits.{same?, test-set, test-and, test-none, test_below, below-few, test-opposite, test-without, without-less}
use Rattle.base.proofs.Fixpoint.{Within}
use Rattle.grammar.specs.declared.Symbol.{Symbol}
use Rattle.grammar.specs.declared.Symbol.TheVariants.{Token, Nonterminal, End}
use Rattle.grammar.specs.Grammar.{Grammar, suffix, facing}
use Rattle.grammar.specs.inside.Tables.{place_words, corners_at, grammar_in, nonterminals_in, rule_at, TablesFit}
use Rattle.grammar.proofs.WordLaws.{facing-past, length-starts-in}
use Rattle.closures.specs.Closures.{passes, passes_by, deriving_round}
use Rattle.closures.specs.inside.Steps.{Empties, Derivers, DerivingIs, Candidates, Passed, TurnedAway, Begins, Gathered}
use Rattle.closures.proofs.Deriving.{passes-place, round-within, deriving-exact, deriving-iff}

-- ---- along a production
-- a list passes if each of its symbols does
pub all-passes : (tokens : Bool) (X : ℕ → Bool) (l : List Symbol) → list_all (λ x. passes tokens X (x ∷ [])) l ≡ passes tokens X l
unfolding passes
all-passes tokens X [] = refl
all-passes tokens X (Token k ∷ l) = ap₂ ◌&&◌ (and-all tokens) (all-passes tokens X l)
all-passes tokens X (Nonterminal a ∷ l) = ap₂ ◌&&◌ (and-all (X a)) (all-passes tokens X l)
all-passes tokens X (End ∷ l) = refl

-- the same place by place
module _ (t : List ℕ) (tokens : Bool) (x first p : ℕ)
    (i : passes tokens (test_bit x) (suffix (grammar_in t) p) ≡ passes tokens (test_bit x) (suffix (grammar_in t) first)) where
  abbrev judged : Symbol → Type 0
  judged s = passes_by tokens (test_bit x) s (passes tokens (test_bit x) (suffix (grammar_in t) (p + 1)))
      ≡ passes tokens (test_bit x) (suffix (grammar_in t) first)

  here : {s : Symbol} → facing (grammar_in t) p ≡ s → judged s
  here e = rw (add-one, ← e) (sym (passes-place tokens (test_bit x) (grammar_in t) p) ∙ i)

  pub pass-end : facing (grammar_in t) p ≡ End → true ≡ passes tokens (test_bit x) (suffix (grammar_in t) first)
  pass-end e = here e

  pub pass-past : place_words ≤ p → true ≡ passes tokens (test_bit x) (suffix (grammar_in t) first)
  pass-past h = here (facing-past t p h)

  pub pass-token-stops : {k : ℕ} → facing (grammar_in t) p ≡ Token k → not tokens ≡ true → false
      ≡ passes tokens (test_bit x) (suffix (grammar_in t) first)
  pass-token-stops e n = ap (λ (b : Bool). b && passes tokens (test_bit x) (suffix (grammar_in t) (p + 1))) (sym (not-true tokens n)) ∙ here e

  pub pass-token : {k : ℕ} → facing (grammar_in t) p ≡ Token k → not tokens ≡ false
      → passes tokens (test_bit x) (suffix (grammar_in t) (p + 1)) ≡ passes tokens (test_bit x) (suffix (grammar_in t) first)
  pass-token e n = ap (λ (b : Bool). b && passes tokens (test_bit x) (suffix (grammar_in t) (p + 1))) (sym (not-false tokens n)) ∙ here e

  pub pass-stops : {a : ℕ} {b : Bool} → facing (grammar_in t) p ≡ Nonterminal a → b ≡ test_bit x a → not b ≡ true
      → false ≡ passes tokens (test_bit x) (suffix (grammar_in t) first)
  pass-stops {a} {b} e h n = let q = here e in rw (sym h ∙ not-true b n) at q

  pub pass-goes : {a : ℕ} {b : Bool} → facing (grammar_in t) p ≡ Nonterminal a → b ≡ test_bit x a → not b ≡ false
      → passes tokens (test_bit x) (suffix (grammar_in t) (p + 1)) ≡ passes tokens (test_bit x) (suffix (grammar_in t) first)
  pass-goes {a} {b} e h n = let q = here e in rw (sym h ∙ not-false b n) at q

-- ---- the productions of a nonterminal
pub rule-within : (t : List ℕ) → TablesFit t → (a : ℕ) {e : ℕ} → a < nonterminals_in t → e ≡ rule_at t (a + 1) → e ≤ corners_at
rule-within t h a l q = rw (q, add-one) (h.within a l)

-- ---- a pass, one candidate after another
-- in the middle of a pass from the set `from`: x is the set so far, and those of `left` are still to be judged
pub record Judging (tokens : Bool) (g : Grammar) (candidates from x left : ℕ) : Type 0 where
  pub within : (a : ℕ) → T (test_bit left a) → T (test_bit candidates a)
  pub kept : (a : ℕ) → T (test_bit from a) → T (test_bit x a)
  pub derives : Derivers tokens g from → Derivers tokens g x
  pub judged : x ≡ from → (a : ℕ) → T (test_bit candidates a) → test_bit left a ≡ false → deriving_round tokens g (test_bit from) a ≡ false

pub less-left : (left a : ℕ) {rest : ℕ} → HighestIs left a → rest ≡ bit_xor left (2 ^ a) → rest < left
less-left left a m e = rw e (without-less left a m.member)

module _ (tokens : Bool) (g : Grammar) (candidates from : ℕ) where
  pub judging-begins : Judging tokens g candidates from from candidates
  judging-begins = record {
    within = λ a t. t;
    kept = λ a t. t;
    derives = λ s. s;
    judged = λ e a t z. absurd (rw z at t);
  }

  module _ (x left : ℕ) (h : Judging tokens g candidates from x left) where
    -- nothing is left
    pub judging-ends : left ≡ 0 → Passed tokens g candidates from x
    judging-ends z = record {
      kept = h.kept;
      derives = h.derives;
      closed = λ e a t. h.judged e a t (rw z (test-none a));
    }

    module _ (n : ℕ) (o : Candidates n candidates from) (a rest : ℕ) (m : HighestIs left a) (q : rest ≡ bit_xor left (2 ^ a)) where
      rest-is : (b : ℕ) → test_bit rest b ≡ (test_bit left b && not (eqb b a))
      rest-is b = rw q (test-without left a b m.member)

      pub a-candidate : T (test_bit candidates a)
      a-candidate = h.within a (true→T (test_bit left a) m.member)

      pub judging-below : a < n
      judging-below = o.few a a-candidate

      still : (b : ℕ) → T (test_bit rest b) → T (test_bit candidates b)
      still b t = h.within b (and_T (test_bit left b) (not (eqb b a)) (rw (rest-is b) at t)).0

      -- no production of a passes
      pub judging-stays : {r : Bool} → r ≡ deriving_round tokens g (test_bit x) a → r ≡ false → Judging tokens g candidates from x rest
      judging-stays f d = record { within = still; kept = h.kept; derives = h.derives; judged = all }
        where
          all : x ≡ from → (b : ℕ) → T (test_bit candidates b) → test_bit rest b ≡ false → deriving_round tokens g (test_bit from) b ≡ false
          all e b t z = go (same? b a)
            where
              go : (b ≡ a) ⊎ (b ≡ a → ⊥) → deriving_round tokens g (test_bit from) b ≡ false
              go (inl s) = rw (s, ← e) (sym f ∙ d)
              go (inr s) =
                  let y : (test_bit left b && true) ≡ false = ap (λ (v : Bool). test_bit left b && not v) (sym (ne_eqb b a s)) ∙ sym (rest-is b) ∙ z in
                  h.judged e b t (sym (and-all (test_bit left b)) ∙ y)

      -- a production of a passes, and a is added, which `from` does not hold
      module _ {r : Bool} (f : r ≡ deriving_round tokens g (test_bit x) a) (d : r ≡ true) (y : ℕ) (w : y ≡ set_bit x a) where
        added : (b : ℕ) → test_bit y b ≡ (test_bit x b || eqb b a)
        added b = rw w (test-set x a b)

        adds-kept : (b : ℕ) → T (test_bit from b) → T (test_bit y b)
        adds-kept b t = rw (added b) (T-or-l (test_bit x b) (eqb b a) (h.kept b t))

        adds-derives : Derivers tokens g from → Derivers tokens g y
        unfolding Derivers
        adds-derives s b t =
            elim (or-T (test_bit x b) (eqb b a) (rw (added b) at t)) [
              | inl u ↦ h.derives s b u
              | inr u ↦
                  rw (eqb→eq b a u) (round-within tokens g (test_bit x) (h.derives s) a (true→T (deriving_round tokens g (test_bit x) a) (sym f ∙ d)))
            ]

        adds-more : y ≡ from → ⊥
        adds-more e =
            let t : T (test_bit y a) = rw (added a) (T-or-r (test_bit x a) (eqb a a) (eqb_refl a)) in
            let u : T (test_bit from a) = rw e at t in
            rw (o.new a a-candidate) at u

        pub judging-adds : Judging tokens g candidates from y rest
        judging-adds = record { within = still; kept = adds-kept; derives = adds-derives; judged = λ e. absurd (adds-more e) }

-- ---- what a pass is to judge: those of a set that are not yet found
module _ (n all x o : ℕ) (few : n ≤ word_bits) (q : o ≡ bit_xor x (2 ^ word_bits - 1)) where
  rest-candidates : ((a : ℕ) → T (test_bit all a) → a < n) → Candidates n (bit_and all o) x
  rest-candidates below = record {
    few = λ a t. below a (both a t).0;
    new = λ a t.
        let l = below a (both a t).0 in
        let e : test_bit o a ≡ not (test_bit x a) = rw q (test-opposite x a (omega arith)) in
        let u : T (not (test_bit x a)) = rw e at (both a t).1 in
        not-true (test_bit x a) (T→true (not (test_bit x a)) u);
  }
    where
      both : (a : ℕ) → T (test_bit (bit_and all o) a) → T (test_bit all a) × T (test_bit o a)
      both a t = and_T (test_bit all a) (test_bit o a) (rw test-and at t)

  rest_has : (a : ℕ) → a < n → T (test_bit all a) → test_bit x a ≡ false → T (test_bit (bit_and all o) a)
  rest_has a l t z =
      let e : test_bit o a ≡ true = rw q (test-opposite x a (omega arith) ∙ ap not z) in
      rw test-and (T_and (test_bit all a) (test_bit o a) t (true→T (test_bit o a) e))

-- a set of all nonterminals leaves none to add
pub closure-full : (tokens : Bool) (g : Grammar) (n x : ℕ) → length g.starts ≡ n → Derivers tokens g x → x ≡ 2 ^ n - 1 → DerivingIs tokens g x
unfolding DerivingIs Derivers
closure-full tokens g n x m s e =
    deriving-exact tokens g (test_bit x) s (λ a l t. true→T (test_bit x a) (rw e (test_below n a (omega (arith, m)))))

-- ---- the closure from what it begins with
module _ (tokens : Bool) (t : List ℕ) (judged from : ℕ) (Away : ℕ → ℕ → Type 0) (h : Begins tokens t judged from Away) (x o : ℕ)
    (i : Within (test_bit from) (test_bit x)) (q : o ≡ bit_xor x (2 ^ word_bits - 1)) where
  outside : (a : ℕ) → test_bit x a ≡ false → test_bit from a ≡ false
  outside a z = ¬T→false (test_bit from a) (λ s. rw z at (i a s))

  pub to-judge : Candidates (nonterminals_in t) (bit_and judged o) x
  to-judge = rest-candidates (nonterminals_in t) judged x o h.fits.few q h.few

  pub turned-away : TurnedAway tokens (grammar_in t) (bit_and judged o) Away
  turned-away y a s w = h.away y a (and_T (test_bit judged a) (test_bit o a) (rw test-and at s)).0 (outside a (to-judge.new a s)) w

  -- a pass that adds nothing leaves nothing to add
  pub settled : {y : ℕ} → Derivers tokens (grammar_in t) x → Passed tokens (grammar_in t) (bit_and judged o) x y → y ≡ x → DerivingIs tokens (grammar_in t) x
  unfolding DerivingIs Derivers
  settled {y} s p e =
      deriving-exact tokens (grammar_in t) (test_bit x) s (λ a l d. let m = rw length-starts-in at l in go a m d (test_bit x a) refl (test_bit judged a) refl)
    where
      go : (a : ℕ) → a < nonterminals_in t → T (deriving_round tokens (grammar_in t) (test_bit x) a) → (b : Bool) → test_bit x a ≡ b → (c : Bool)
          → test_bit judged a ≡ c → T (test_bit x a)
      go a l d true z c w = true→T (test_bit x a) z
      go a l d false z true w =
          let u = rest_has (nonterminals_in t) judged x o h.fits.few q a l (true→T (test_bit judged a) w) z in
          absurd (rw (p.closed e a u) at d)
      go a l d false z false w = absurd (rw (h.others a x l w (outside a z)) at d)

-- ---- what the closure begins with
none-derives : (tokens : Bool) (g : Grammar) → Derivers tokens g 0
unfolding Derivers
none-derives tokens g a t = absurd (rw test-none at t)

-- an empty production derives the empty row
pub empties-derive : (g : Grammar) (n x : ℕ) → Empties g n x → Derivers false g x
unfolding Derivers
empties-derive g n x h a t = round-within false g (test_bit 0) (none-derives false g) a (h.has a t)

-- without one nothing does
pub none-empty : (g : Grammar) (n x : ℕ) → length g.starts ≡ n → Empties g n x → x ≡ 0 → DerivingIs false g 0
unfolding DerivingIs Derivers
none-empty g n x m h e =
    deriving-exact false g (test_bit 0) (none-derives false g) (λ a l t. let s = h.all a (omega (arith, m)) t in rw e at s)

-- what derives the empty row derives a row
pub nullable-derive : (g : Grammar) (x : ℕ) → DerivingIs false g x → Derivers true g x
unfolding DerivingIs Derivers
nullable-derive g x h a t = let d = (deriving-iff false g a).0 (rw (h a) at t) in (deriving-iff true g a).1 (d.0, tt, d.2)

-- ---- what the closure begins with, for a row and for the empty row
-- every nonterminal is judged, and none turned away
pub all-begin : (t : List ℕ) (n all x : ℕ) (Away : ℕ → ℕ → Type 0) → TablesFit t → DerivingIs false (grammar_in t) x → n ≡ nonterminals_in t
    → all ≡ 2 ^ n - 1 → ((y a : ℕ) → ¬ Away y a) → Begins true t all x Away
all-begin t n all x Away f h m w none = record {
  fits = f;
  derive = nullable-derive (grammar_in t) x h;
  few = λ a s. below-few (nonterminals_in t) a (rw (w, m) at s);
  others = λ a y l z.
      let z' : test_bit (2 ^ nonterminals_in t - 1) a ≡ false = rw (w, m) at z in
      let c : true ≡ false = sym (test_below (nonterminals_in t) a l) ∙ z' in
      clash (cc);
  away = λ y a s z v. absurd (none y a v);
}

-- those that begin with a nonterminal are judged, and turned away where their row misses the set
pub led-begin : (t rows : List ℕ) (led empty : ℕ) (Away : ℕ → ℕ → Type 0) → Gathered t rows led empty
    → ((y a : ℕ) → Away y a → bit_and (get_or rows a 0) y ≡ 0) → Begins false t led empty Away
led-begin t rows led empty Away h miss = record {
  fits = h.fits;
  derive = empties-derive (grammar_in t) (nonterminals_in t) empty h.empties;
  few = h.headed.few;
  others = λ a x l z w. let r = h.headed.none a l z in h.headed.first a l (not-empty a l w) (test_bit x) (λ c m. absurd (rw (r, test-none) at m));
  away = λ x a s w v.
      let l = h.headed.few a s in
      h.headed.first a l (not-empty a l w) (test_bit x) (λ c m. ¬T→false (test_bit x c) (λ u.
      let b : T (test_bit (bit_and (get_or rows a 0) x) c) = rw test-and (T_and (test_bit (get_or rows a 0) c) (test_bit x c) m u) in
      rw (miss x a v, test-none) at b));
}
  where
    -- none outside the set has an empty production
    not-empty : (a : ℕ) → a < nonterminals_in t → test_bit empty a ≡ false → deriving_round false (grammar_in t) (test_bit 0) a ≡ false
    not-empty a l z = ¬T→false (deriving_round false (grammar_in t) (test_bit 0) a) (λ s. rw z at (h.empties.all a l s))
