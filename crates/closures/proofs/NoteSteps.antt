-- The rows of needs and owners: what a production needs, place by place, and the productions noted one by one, as the code meets them.
use mathlib.Core.Path.{◌≡◌, refl, sym, ap, ◌∙◌}
use mathlib.Core.Logic.{◌⊎◌, inl, inr}
use mathlib.Core.Bool.{Bool, true, false, not, ◌&&◌, ◌||◌}
use mathlib.Core.List.{List, [], ◌∷◌}
use Prim.Native.Nat.{ℕ, zero, suc, ◌+◌, ◌-◌, ◌≤◌, ◌<◌, ◌^◌}
use native.Mathlib.Numerals.{add-one}
use native.Mathlib.Omega.{arith}
use native.Mathlib.Decide.{dec_lt}
use lib.Dec.{T, eqb, eqb→eq, eqb_refl}
use lib.ListN.{length, get_or, set, take, replicate, length-take, length-drop}
use lib.Seq.{slice, get_or-set_same, get_or-set_other, get_or-take, get_or-drop}
use Rattle.std.proofs.Math.Nat.{min-eq_left}
use borrow.Author.Tests.{not-true, not-false}
use Rattle.base.specs.Bits.{test_bit, set_bit, is_subset}
use Rattle.base.proofs.Booleans.{clash, same, and_assoc, and-all, and_none, or-T, T-or-l, T-or-r, true→T}
use Rattle.base.proofs.Bits.{same?, test-set, test-none, test_below, subset_iff, subset-none, subset-set}
use Rattle.grammar.specs.declared.Symbol.{Symbol}
use Rattle.grammar.specs.declared.Symbol.TheVariants.{Token, Nonterminal, End}
use Rattle.grammar.specs.Limits.{max_nonterminals}
use Rattle.grammar.specs.Grammar.{suffix, alternatives}
use Rattle.grammar.specs.inside.Tables.{firsts_at, grammar_in, nonterminals_in, rule_at, TablesFit}
use Rattle.grammar.proofs.WordLaws.{alternatives-in}
use Rattle.closures.specs.Closures.{passes}
use Rattle.closures.specs.inside.Steps.{NeedIs, Owns, Noted}

-- ---- along a production
-- the need so far and the symbols still to come together ask what the whole asks
abbrev pub Asks : Bool → List Symbol → ℕ → List Symbol → Type 0
Asks tokens whole need rest =
    (x a : ℕ) → a < max_nonterminals → test_bit x a ≡ false → (is_subset need x && passes tokens (test_bit x) rest) ≡ passes tokens (test_bit x) whole

pub asks-begin : (tokens : Bool) (whole rest : List Symbol) → rest ≡ whole → Asks tokens whole 0 rest
asks-begin tokens whole rest e x a l h = rw (subset-none, e)

module _ (tokens : Bool) (whole : List Symbol) (need : ℕ) (rest : List Symbol) (i : Asks tokens whole need rest) where
  pub asks-end : rest ≡ [] → NeedIs tokens whole need
  unfolding NeedIs passes
  asks-end e x a l h = sym (and-all (is_subset need x)) ∙ rw e at (i x a l h)

  never : ((X : ℕ → Bool) → passes tokens X rest ≡ false) → NeedIs tokens whole (2 ^ max_nonterminals - 1)
  unfolding NeedIs
  never n x a l h =
      let q : (is_subset need x && passes tokens (test_bit x) rest) ≡ false = ap (λ (b : Bool). is_subset need x && b) (n (test_bit x))
      ∙ and_none (is_subset need x) in
      same (is_subset (2 ^ max_nonterminals - 1) x) false
      (λ s. rw h at ((subset_iff (2 ^ max_nonterminals - 1) x).0 s a (true→T (test_bit (2 ^ max_nonterminals - 1) a) (test_below max_nonterminals a l))))
      (λ s. absurd s)
      ∙ sym q ∙ i x a l h

  module _ {y : Symbol} {next : List Symbol} (e : rest ≡ y ∷ next) where
    pub asks-none : y ≡ End → NeedIs tokens whole (2 ^ max_nonterminals - 1)
    unfolding passes
    asks-none z = never (λ X. rw (e, z))

    pub asks-never : {k : ℕ} → y ≡ Token k → not tokens ≡ true → NeedIs tokens whole (2 ^ max_nonterminals - 1)
    unfolding passes
    asks-never z n = never (λ X. rw (e, z, not-true tokens n))

    pub asks-token : {k : ℕ} → y ≡ Token k → not tokens ≡ false → Asks tokens whole need next
    unfolding passes
    asks-token z n x a l h =
        ap (λ (b : Bool). is_subset need x && (b && passes tokens (test_bit x) next)) (sym (not-false tokens n)) ∙ rw (e, z) at (i x a l h)

    pub asks-more : {b r : ℕ} → y ≡ Nonterminal b → r ≡ set_bit need b → Asks tokens whole r next
    unfolding passes
    asks-more {b} z q x a l h = rw (q, subset-set) (and_assoc (is_subset need x) (test_bit x b) (passes tokens (test_bit x) next) ∙ rw (e, z) at (i x a l h))

-- ---- the productions of a nonterminal in tables
module _ (t : List ℕ) (f : TablesFit t) (a : ℕ) (l : a < nonterminals_in t) (places : List ℕ) (e : places ≡ alternatives (grammar_in t) a) where
  are-slice : places ≡ slice (rule_at t a) (rule_at t (suc a)) t
  are-slice = e ∙ alternatives-in t a l

  pub places-many : length places ≡ rule_at t (suc a) - rule_at t a
  places-many =
      rw are-slice (length-drop (rule_at t a) (take (rule_at t (suc a)) t)
      ∙ ap (λ (n : ℕ). n - rule_at t a) (length-take (rule_at t (suc a)) t ∙ min-eq_left (omega (arith, f.within a l, f.long))))

  pub place-is : (k : ℕ) → k < length places → get_or places k 0 ≡ get_or t (rule_at t a + k) 0
  place-is k m =
      let o = f.ordered a l in
      rw are-slice (get_or-drop (rule_at t a) (take (rule_at t (suc a)) t) k 0
      ∙ get_or-take (rule_at t (suc a)) t (rule_at t a + k) 0 (omega (arith, places-many)))

-- ---- noting productions
pub rule-from : (t : List ℕ) (a : ℕ) → firsts_at ≤ rule_at t a
unfolding rule_at
rule-from t a = omega arith

zeros-at : (n j : ℕ) → ◌≡◌ {A = ℕ} (get_or (replicate n 0) j 0) 0
zeros-at zero j = refl
zeros-at (suc n) zero = refl
zeros-at (suc n) (suc j) = zeros-at n j

module _ (tokens : Bool) (t : List ℕ) (from count : ℕ) where
  pub noted-none : (needs : List ℕ) (n : ℕ) → Noted tokens t from count 0 0 needs (replicate n 0)
  noted-none needs n = record {
    right = λ b j s. absurd (rw (zeros-at n j, test-none) at s);
    below = λ b j l q o. absurd (omega arith);
    own = λ j l o. absurd (omega arith);
  }

  module _ (a k : ℕ) (needs owners : List ℕ) (h : Noted tokens t from count a k needs owners) where
    -- none of a's productions stands before the first
    pub noted-begin : {start : ℕ} → firsts_at + start ≡ rule_at t a → Noted tokens t from count a start needs owners
    noted-begin e = record {
      right = h.right;
      below = h.below;
      own = λ j l o. let s = o.0 in absurd (omega (arith, e));
    }

    -- a is done: it is in `from`, or all its productions stand before k
    noted-next : (more : ℕ) → count ≤ more → ((j : ℕ) → test_bit from a ≡ false → Owns t a j → (j < more) × T (test_bit (get_or owners j 0) a))
        → Noted tokens t from more (a + 1) 0 needs owners
    noted-next more l last = record {
      right = h.right;
      below = λ b j m q o. elim (dec_lt b a) [
        | yes y ↦ (let r = h.below b j y q o in let r₀ = r.0 in (omega arith, r.1))
        | no y ↦
            (let z : b ≡ a = omega (arith, add-one a) in rw z (last j (rw z at q) (rw z at o)))
      ];
      own = λ j m o. absurd (omega arith);
    }

    pub noted-skip : {b : Bool} → b ≡ test_bit from a → b ≡ true → Noted tokens t from count (a + 1) 0 needs owners
    noted-skip e z = noted-next count (omega arith) (λ j q o. let y : true ≡ false = sym z ∙ e ∙ q in clash (cc))

    pub noted-done : (more : ℕ) → count ≤ more → rule_at t (a + 1) ≤ firsts_at + more → rule_at t (a + 1) ≤ firsts_at + k
        → Noted tokens t from more (a + 1) 0 needs owners
    noted-done more l m e =
        let m' : rule_at t (suc a) ≤ firsts_at + more = rw add-one at m in
        let e' : rule_at t (suc a) ≤ firsts_at + k = rw add-one at e in
        noted-next more l (λ j q o. let o₁ = o.1 in (omega arith, h.own j (omega arith) o))

    module _ (p v w : ℕ) (l : a < nonterminals_in t) (m : k < length needs) (m' : k < length owners) (o : Owns t a k) (e : p ≡ get_or t (firsts_at + k) 0)
        (n : NeedIs tokens (suffix (grammar_in t) p) v) (q : w ≡ set_bit (get_or owners k 0) a) where
      need-here : NeedIs tokens (suffix (grammar_in t) (get_or t (firsts_at + k) 0)) (get_or (set needs k v) k 0)
      need-here = rw (get_or-set_same needs k v 0 m, ← e) n

      bits-here : (b : ℕ) → test_bit (get_or (set owners k w) k 0) b ≡ (test_bit (get_or owners k 0) b || eqb b a)
      bits-here b = rw (get_or-set_same owners k w 0 m', q) (test-set (get_or owners k 0) a b)

      kept : (b j : ℕ) → T (test_bit (get_or owners j 0) b) → T (test_bit (get_or (set owners k w) j 0) b)
      kept b j s = go (same? j k)
        where
          go : (j ≡ k) ⊎ (j ≡ k → ⊥) → T (test_bit (get_or (set owners k w) j 0) b)
          go (inl e) = rw (e, bits-here b) (T-or-l (test_bit (get_or owners k 0) b) (eqb b a) (rw e at s))
          go (inr e) = rw (get_or-set_other owners k j w 0 e) s

      abbrev Right : ℕ → ℕ → Type 0
      Right b j = (b < nonterminals_in t) × Owns t b j × NeedIs tokens (suffix (grammar_in t) (get_or t (firsts_at + j) 0)) (get_or (set needs k v) j 0)

      right-here : (b : ℕ) → T (test_bit (get_or owners k 0) b) ⊎ T (eqb b a) → Right b k
      right-here b (inl s) = let r = h.right b k s in (r.0, r.1, need-here)
      right-here b (inr s) = rw (eqb→eq b a s) (l, o, need-here)

      right-next : (b j : ℕ) → T (test_bit (get_or (set owners k w) j 0) b) → Right b j
      right-next b j s = go (same? j k)
        where
          go : (j ≡ k) ⊎ (j ≡ k → ⊥) → Right b j
          go (inl e) =
              let s' : T (test_bit (get_or (set owners k w) k 0) b) = rw e at s in
              rw e (right-here b (or-T (test_bit (get_or owners k 0) b) (eqb b a) (rw (bits-here b) at s')))
          go (inr e) =
              let s' : T (test_bit (get_or owners j 0) b) = rw (get_or-set_other owners k j w 0 e) at s in
              rw (get_or-set_other needs k j v 0 e) (h.right b j s')

      own-next : (j : ℕ) → j < k + 1 → Owns t a j → T (test_bit (get_or (set owners k w) j 0) a)
      own-next j u o' = go (same? j k)
        where
          go : (j ≡ k) ⊎ (j ≡ k → ⊥) → T (test_bit (get_or (set owners k w) j 0) a)
          go (inl e) = rw (e, bits-here a) (T-or-r (test_bit (get_or owners k 0) a) (eqb a a) (eqb_refl a))
          go (inr e) = kept a j (h.own j (omega arith) o')

      pub noted_more : Noted tokens t from count a (k + 1) (set needs k v) (set owners k w)
      noted_more = record {
        right = right-next;
        below = λ b j u q' o'. let r = h.below b j u q' o' in (r.0, kept b j r.1);
        own = own-next;
      }
