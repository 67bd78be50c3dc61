-- Rounds over the rows of needs and owners: what a round adds, and that rounds come to the set of what derives.
use mathlib.Core.Path.{◌≡◌, refl, ◌∙◌}
use mathlib.Core.Logic.{◌⊎◌, inl, inr}
use mathlib.Core.Bool.{Bool, true, false, cond}
use mathlib.Core.List.{List, [], ◌∷◌}
use Prim.Native.Nat.{ℕ, zero, suc, ◌+◌, ◌-◌, ◌≤◌, ◌<◌}
use native.Mathlib.Numerals.{add-one}
use native.Mathlib.Omega.{arith}
use lib.Dec.{T}
use lib.Bits.{bit_or}
use lib.ListN.{length, get_or, take, drop, length-take}
use lib.Seq.{slice, get_or-take}
use Rattle.std.proofs.Math.Nat.{min-le_left}
use Rattle.base.specs.Bits.{test_bit, is_subset}
use Rattle.base.proofs.Booleans.{clash, same, or-T, T-or-l, T-or-r, true→T, T→true}
use Rattle.base.proofs.Bits.{same?, test-or, test-none, or-ge}
use Rattle.base.proofs.Fixpoint.{Within}
use Rattle.base.proofs.Lists.{Found, any_of-T, T-any_of, slice_get, slice-from}
use Rattle.grammar.specs.Grammar.{suffix}
use Rattle.grammar.specs.inside.Tables.{firsts_at, grammar_in, nonterminals_in, rule_at, TablesFit}
use Rattle.grammar.proofs.WordLaws.{alternatives-in, length-starts-in}
use Rattle.closures.specs.Closures.{passes, deriving_round, deriving?}
use Rattle.closures.specs.inside.Steps.{Derivers, DerivingIs, NeedIs, Owns, Noted, round_of}
use Rattle.closures.proofs.Deriving.{round-within, deriving-exact}
use Rattle.closures.proofs.NoteSteps.{rule-from}

-- ---- a round, production by production
pub round-more : (needs owners : List ℕ) (x k : ℕ) {y r : ℕ} → y ≡ round_of needs owners x k → r
    ≡ cond (is_subset (get_or needs k 0) x) (get_or owners k 0) 0
    → bit_or y r ≡ round_of needs owners x (k + 1)
unfolding round_of
round-more needs owners x k i e = rw (add-one, ← i, ← e)

-- the next of what is left of a list
turn : (n : ℕ) (l rest : List ℕ) (x : ℕ) → drop n l ≡ x ∷ rest → (rest ≡ drop (suc n) l) × (x ≡ get_or l n 0) × (n < length l)
turn zero [] rest x e = clash (cc)
turn (suc n) [] rest x e = clash (cc)
turn zero (y ∷ l) rest x e = (cc, cc, omega arith)
turn (suc n) (y ∷ l) rest x e = let (q, z, m) = turn n l rest x e in (q, z, omega arith)

-- the production whose words come next, and what is left behind it
pub round-next : (l : List ℕ) (count n : ℕ) {m : ℕ} (rest : List ℕ) (x : ℕ) → drop n (take count l) ≡ x ∷ rest → m ≡ n + 1
    → (rest ≡ drop m (take count l)) × (x ≡ get_or l n 0)
round-next l count n rest x e q =
    let (z, y, m) = turn n (take count l) rest x e in
    (rw (q, add-one) z, y ∙ get_or-take count l n 0 (omega (arith, length-take count l, min-le_left count (length l))))

-- ---- what a round adds
module _ (needs owners : List ℕ) (x a : ℕ) where
  data Way (k : ℕ) : Type 0 where
    held : T (test_bit x a) → Way k
    added : (j : ℕ) → j < k → T (is_subset (get_or needs j 0) x) → T (test_bit (get_or owners j 0) a) → Way k

  longer : {k : ℕ} → Way k → Way (suc k)
  longer (held s) = held s
  longer (added j l u v) = added j (omega arith) u v

  round-way : (k : ℕ) → T (test_bit (round_of needs owners x k) a) → Way k
  unfolding round_of
  round-way zero s = held s
  round-way (suc k) s =
      go (or-T (test_bit (round_of needs owners x k) a) (test_bit (cond (is_subset (get_or needs k 0) x) (get_or owners k 0) 0) a) (rw test-or at s))
      (round-way k)
    where
      last : (b : Bool) → is_subset (get_or needs k 0) x ≡ b → T (test_bit (cond b (get_or owners k 0) 0) a) → Way (suc k)
      last true e u = added k (omega arith) (true→T (is_subset (get_or needs k 0) x) e) u
      last false e u = absurd (rw test-none at u)

      go : T (test_bit (round_of needs owners x k) a) ⊎ T (test_bit (cond (is_subset (get_or needs k 0) x) (get_or owners k 0) 0) a)
          → (T (test_bit (round_of needs owners x k) a) → Way k) → Way (suc k)
      go (inl u) rec = longer (rec u)
      go (inr u) rec = last (is_subset (get_or needs k 0) x) refl u

  round-held : (k : ℕ) → T (test_bit x a) → T (test_bit (round_of needs owners x k) a)
  unfolding round_of
  round-held zero s = s
  round-held (suc k) s =
      rw test-or (T-or-l (test_bit (round_of needs owners x k) a) (test_bit (cond (is_subset (get_or needs k 0) x) (get_or owners k 0) 0) a) (round-held k s))

  round-added : (k j : ℕ) → j < k → T (is_subset (get_or needs j 0) x) → T (test_bit (get_or owners j 0) a) → T (test_bit (round_of needs owners x k) a)
  unfolding round_of
  round-added zero j l u v = absurd (omega arith)
  round-added (suc k) j l u v = go (same? j k) (round-added k j)
    where
      before : ℕ
      before = round_of needs owners x k

      own : ℕ
      own = cond (is_subset (get_or needs k 0) x) (get_or owners k 0) 0

      here : j ≡ k → T (test_bit own a)
      here e =
          let u' : T (is_subset (get_or needs k 0) x) = rw e at u in
          let v' : T (test_bit (get_or owners k 0) a) = rw e at v in
          rw (T→true (is_subset (get_or needs k 0) x) u') v'

      go : (j ≡ k) ⊎ (j ≡ k → ⊥) → (j < k → T (is_subset (get_or needs j 0) x) → T (test_bit (get_or owners j 0) a)
          → T (test_bit (round_of needs owners x k) a))
          → T (test_bit (bit_or before own) a)
      go (inl e) rec = rw test-or (T-or-r (test_bit before a) (test_bit own a) (here e))
      go (inr e) rec = rw test-or (T-or-l (test_bit before a) (test_bit own a) (rec (omega arith) u v))

round-ge : (needs owners : List ℕ) (x k : ℕ) → x ≤ round_of needs owners x k
unfolding round_of
round-ge needs owners x zero = omega arith
round-ge needs owners x (suc k) =
    omega (arith, round-ge needs owners x k, or-ge (round_of needs owners x k) (cond (is_subset (get_or needs k 0) x) (get_or owners k 0) 0))

pub round-grows : (needs owners : List ℕ) (x k : ℕ) {r : ℕ} → r ≡ round_of needs owners x k → x ≤ r
round-grows needs owners x k e = rw e (round-ge needs owners x k)

-- ---- rounds come to the set
pub round-holds : (needs owners : List ℕ) (from x k : ℕ) {r : ℕ} → r ≡ round_of needs owners x k → Within (test_bit from) (test_bit x)
    → Within (test_bit from) (test_bit r)
round-holds needs owners from x k e h a t = rw e (round-held needs owners x a k (h a t))

module _ (tokens : Bool) (t : List ℕ) (f : TablesFit t) (from count : ℕ) (needs owners : List ℕ)
    (h : Noted tokens t from count (nonterminals_in t) 0 needs owners) where
  -- a production of a that passes, as the rows have it
  passes-in : (x a : ℕ) → a < nonterminals_in t → (j : ℕ) → Owns t a j
      → T (passes tokens (test_bit x) (suffix (grammar_in t) (get_or t (firsts_at + j) 0)))
      → T (deriving_round tokens (grammar_in t) (test_bit x) a)
  unfolding deriving_round
  passes-in x a l j o s =
      let m = o.0 in
      let m' = o.1 in
      let q : rule_at t a + (firsts_at + j - rule_at t a) ≡ firsts_at + j = omega arith in
      rw (alternatives-in t a l)
      (T-any_of (λ p. passes tokens (test_bit x) (suffix (grammar_in t) p)) (slice (rule_at t a) (rule_at t (suc a)) t) (firsts_at + j - rule_at t a)
      (slice_get t (rule_at t (suc a)) (firsts_at + j - rule_at t a) (rule_at t a) (omega arith) (omega (arith, f.within a l, f.long))) (rw q s))

  pub round_keeps : (x k : ℕ) {r : ℕ} → r ≡ round_of needs owners x k → Derivers tokens (grammar_in t) x → Derivers tokens (grammar_in t) r
  unfolding Derivers NeedIs
  round_keeps x k e s a u = go (round-way needs owners x a k (rw e at u))
    where
      new : (j : ℕ) → T (is_subset (get_or needs j 0) x) → T (test_bit (get_or owners j 0) a) → (b : Bool) → test_bit x a ≡ b
          → T (deriving? tokens (grammar_in t) a)
      new j v w true q = s a (true→T (test_bit x a) q)
      new j v w false q =
          let (l, o, n) = h.right a j w in
          round-within tokens (grammar_in t) (test_bit x) s a (passes-in x a l j o (rw (n x a (omega (arith, f.few)) q) at v))

      go : Way needs owners x a k → T (deriving? tokens (grammar_in t) a)
      go (held v) = s a v
      go (added j l v w) = new j v w (test_bit x a) refl

  module _ (x : ℕ) (i : Within (test_bit from) (test_bit x)) (e : x ≡ round_of needs owners x count) where
    -- a production that passes has its owner added
    round-hits : (a j : ℕ) → a < nonterminals_in t → Owns t a j → test_bit x a ≡ false
        → T (passes tokens (test_bit x) (suffix (grammar_in t) (get_or t (firsts_at + j) 0))) → T (test_bit (round_of needs owners x count) a)
    unfolding NeedIs
    round-hits a j l o q v =
        let q' : test_bit from a ≡ false = same (test_bit from a) false (λ s. rw q at (i a s)) (λ s. absurd s) in
        let (m, s) = h.below a j l q' o in
        let (l', o', n) = h.right a j s in
        round-added needs owners x a count j m (rw (n x a (omega (arith, f.few)) q) v) s

    -- a round that adds nothing leaves nothing to add
    round-closed : (a : ℕ) → a < nonterminals_in t → T (deriving_round tokens (grammar_in t) (test_bit x) a) → T (test_bit x a)
    unfolding deriving_round
    round-closed a l u =
        go (test_bit x a) refl (any_of-T (λ p. passes tokens (test_bit x) (suffix (grammar_in t) p)) (slice (rule_at t a) (rule_at t (suc a)) t)
        (rw (alternatives-in t a l) at u))
      where
        go : (b : Bool) → test_bit x a ≡ b → Found (λ p. passes tokens (test_bit x) (suffix (grammar_in t) p)) (slice (rule_at t a) (rule_at t (suc a)) t)
            → T (test_bit x a)
        go true q w = true→T (test_bit x a) q
        go false q (m, p, z, v) =
            let (y, y') = slice-from t (rule_at t (suc a)) m (rule_at t a) p (omega (arith, f.within a l, f.long)) z in
            let k : rule_at t a + m ≡ firsts_at + (rule_at t a + m - firsts_at) = omega (arith, rule-from t a) in
            let o : Owns t a (rule_at t a + m - firsts_at) = (omega arith, omega arith) in
            rw e (round-hits a (rule_at t a + m - firsts_at) l o q (rw (← k, ← y') v))

    pub round_exact : Derivers tokens (grammar_in t) x → DerivingIs tokens (grammar_in t) x
    unfolding DerivingIs Derivers
    round_exact s = deriving-exact tokens (grammar_in t) (test_bit x) s (λ a l u. round-closed a (rw length-starts-in at l) u)
