-- Nonterminals that are placed one after the other: each place is taken once, so there is room for all.
use mathlib.Core.Path.{◌≡◌, refl, sym, ap, ◌∙◌, subst}
use mathlib.Core.Logic.{⊎_elim}
use mathlib.Core.Bool.{Bool, true, false, not, ◌||◌}
use mathlib.Core.List.Memᴰ
use mathlib.Core.List.{List, [], ◌∷◌, Memᴰ}
use Prim.Native.Nat.{ℕ, zero, suc, ◌≤◌, ◌<◌}
use native.Mathlib.Omega.{arith}
use lib.Dec.{T, eqb, eqb→eq, eqb_refl}
use lib.ListN.{length, get_or, set, length-set}
use lib.Seq.{get_or-set_same, get_or-set_other}
use Rattle.base.specs.Bits.{test_bit, set_bit, is_subset}
use Rattle.base.proofs.Bits.{same?, test-none, test-set, subset_iff}
use Rattle.base.proofs.Booleans.{and_T, or-T, T-or-l, T-or-r, true→T, false→¬T}
use Rattle.grammar.specs.Limits.{max_nonterminals}
use Rattle.grammar.specs.Grammar.{Grammar}
use Rattle.grammar.specs.inside.Tables.{grammar_in, nonterminals_in, corner_row}
use Rattle.corners.specs.Corners.{move?, Cornered}
use Rattle.derivation.specs.inside.Ready.{Ready}
use Rattle.base.specs.Lists.{Distinct, nil, also}
use Rattle.derivation.proofs.Pigeon.{pigeon}
use Rattle.order.specs.inside.Order.{Among, Lined, InOrder}
use Rattle.order.specs.inside.Placing.{ripe_of, Placing}

-- ---- the first k of a row as a list: no two alike, so at most as many as there are nonterminals
entries : List ℕ → ℕ → List ℕ
entries row zero = []
entries row (suc k) = get_or row k 0 ∷ entries row k

length-entries : (row : List ℕ) (k : ℕ) → length (entries row k) ≡ k
unfolding entries
length-entries row zero = refl
length-entries row (suc k) = ap suc (length-entries row k)

among-more : (row : List ℕ) (k m a : ℕ) → k ≤ m → Among row k a → Among row m a
among-more row k m a l (x, h, e) = (x, omega arith, e)

entry-among : (row : List ℕ) (k a : ℕ) → Memᴰ a (entries row k) → Among row k a
unfolding entries
entry-among row zero a m = absurd (Memᴰ.not-nil m)
entry-among row (suc k) a m = ⊎_elim (λ e. (k, omega arith, sym e)) (λ n. among-more row k (suc k) a (omega arith) (entry-among row k a n))
    (Memᴰ.cases_cons m)

module _ (g : Grammar) (n : ℕ) (row : List ℕ) where
  fewer : (k j : ℕ) → j ≤ k → Lined g n row k → Lined g n row j
  fewer k j l x = record { named = λ m h. x.named m (omega arith); once = λ m h. x.once m (omega arith); behind = λ m c h. x.behind m c (omega arith) }

  distinct : (k : ℕ) → Lined g n row k → Distinct (entries row k)
  unfolding entries
  distinct zero x = nil
  distinct (suc k) x = also (λ m. x.once k (omega arith) (entry-among row k (get_or row k 0) m)) (distinct k (fewer (suc k) k (omega arith) x))

  below : (k : ℕ) → Lined g n row k → (a : ℕ) → Among row k a → a < n
  below k x a (m, h, e) = rw (← e) (x.named m h)

  -- a nonterminal that has no place: there is room for one more
  spare : (k : ℕ) → Lined g n row k → (a : ℕ) → a < n → ¬ Among row k a → k < n
  spare k x a h none =
      let l = pigeon n (a ∷ entries row k) (also (λ m. none (entry-among row k a m)) (distinct k x)) inside in
      omega (arith, length-entries row k)
    where
      inside : (y : ℕ) → Memᴰ y (a ∷ entries row k) → y < n
      inside y m = ⊎_elim (λ e. rw e h) (λ z. below k x y (entry-among row k y z)) (Memᴰ.cases_cons m)

-- a row in which every number below n is one of the first k has at least n
record Places (row : List ℕ) (k n : ℕ) : Type 0 where
  list : List ℕ
  apart : Distinct list
  long : length list ≡ n
  inside : (m : ℕ) → Memᴰ m list → (m < k) × (get_or row m 0 < n)

places : (row : List ℕ) (k n : ℕ) → ((a : ℕ) → a < n → Among row k a) → Places row k n
places row k zero all = record { list = []; apart = nil; long = refl; inside = λ m x. absurd (Memᴰ.not-nil x) }
places row k (suc n) all = more (all n (omega arith)) (places row k n (λ a h. all a (omega arith)))
  where
    more : Among row k n → Places row k n → Places row k (suc n)
    more (m, h, e) x =
        record {
          list = m ∷ x.list;
          apart = also (λ y. (let z = x.inside m y in omega arith)) x.apart;
          long = ap suc x.long;
          inside = λ j y. ⊎_elim (λ q. (let z : get_or row j 0 ≡ get_or row m 0 = ap (λ (i : ℕ). get_or row i 0) q in (omega arith, omega arith)))
              (λ y. (let z = x.inside j y in (z.0, omega arith))) (Memᴰ.cases_cons y);
        }

enough : (row : List ℕ) (k n : ℕ) → ((a : ℕ) → a < n → Among row k a) → n ≤ k
enough row k n all = let x = places row k n all in let y = pigeon k x.list x.apart (λ m z. (x.inside m z).0) in omega (arith, x.long)

-- ---- nothing is placed
pub placing-none : (t order : List ℕ) → length order ≡ max_nonterminals → Placing t order 0 0
placing-none t order l =
    record {
      long = l;
      lined = record { named = λ m h. absurd (omega arith); once = λ m h. absurd (omega arith); behind = λ m c h. absurd (omega arith) };
      listed = λ a x. absurd (rw (test-none a) at x);
      marked = λ a (m, h, e). absurd (omega arith);
    }

module _ (t order : List ℕ) (set₀ count : ℕ) (inv : Placing t order set₀ count) where
  pub placing-room : (a : ℕ) → a < nonterminals_in t → test_bit set₀ a ≡ false → count < nonterminals_in t
  placing-room a h e = spare (grammar_in t) (nonterminals_in t) order count inv.lined a h (λ m. false→¬T (test_bit set₀ a) e (inv.marked a m))

  pub placing-count : ((a : ℕ) → a < nonterminals_in t → T (test_bit set₀ a)) → nonterminals_in t ≤ count
  placing-count all = enough order count (nonterminals_in t) (λ a h. inv.listed a (all a h))

  pub placing-few : nonterminals_in t ≤ count → (a : ℕ) → a < nonterminals_in t → Among order count a
  placing-few l a h = go (test_bit set₀ a) refl
    where
      go : (b : Bool) → test_bit set₀ a ≡ b → Among order count a
      go true e = inv.listed a (true→T (test_bit set₀ a) e)
      go false e = absurd (let k = placing-room a h e in omega arith)

-- ---- a nonterminal is ripe
module _ (row set₀ a : ℕ) (e : ripe_of row set₀ a ≡ true) where
  ripe-both : T (not (test_bit set₀ a)) × T (is_subset row set₀)
  unfolding ripe_of
  ripe-both = and_T (not (test_bit set₀ a)) (is_subset row set₀) (true→T (ripe_of row set₀ a) e)

  pub ripe-fresh : test_bit set₀ a ≡ false
  ripe-fresh = go (test_bit set₀ a) refl ripe-both.0
    where
      go : (b : Bool) → test_bit set₀ a ≡ b → T (not b) → test_bit set₀ a ≡ false
      go true q x = absurd x
      go false q x = q

  ripe-under : (c : ℕ) → T (test_bit row c) → T (test_bit set₀ c)
  ripe-under = (subset_iff row set₀).0 ripe-both.1

-- it takes the next place
module _ (t order : List ℕ) (set₀ count a : ℕ) (known : Ready t) (inv : Placing t order set₀ count) (h : a < nonterminals_in t)
    (ripe : ripe_of (corner_row t a) set₀ a ≡ true) where
  abbrev after : List ℕ
  after = set order count a

  pub placing-space : count < nonterminals_in t
  placing-space = placing-room t order set₀ count inv a h (ripe-fresh (corner_row t a) set₀ a ripe)

  entry_new : get_or after count 0 ≡ a
  entry_new = get_or-set_same order count a 0 (omega (arith, placing-space, inv.long, known.fits.few))

  entry_old : (m : ℕ) → m < count → get_or after m 0 ≡ get_or order m 0
  entry_old m l = get_or-set_other order count m a 0 (λ e. absurd (omega arith))

  to-after : (k x : ℕ) → k ≤ count → Among order k x → Among after k x
  to-after k x l (m, b, e) = (m, b, entry_old m (omega arith) ∙ e)

  from-after : (k x : ℕ) → k ≤ count → Among after k x → Among order k x
  from-after k x l (m, b, e) = (m, b, sym (entry_old m (omega arith)) ∙ e)

  named : (m : ℕ) → m < suc count → get_or after m 0 < nonterminals_in t
  named m l = ⊎_elim last (λ n. rw (entry_old m (omega arith)) (inv.lined.named m (omega arith))) (same? m count)
    where
      last : m ≡ count → get_or after m 0 < nonterminals_in t
      last e = let z : get_or after m 0 ≡ a = ap (λ (k : ℕ). get_or after k 0) e ∙ entry_new in omega arith

  once : (m : ℕ) → m < suc count → ¬ Among after m (get_or after m 0)
  once m l x = ⊎_elim last earlier (same? m count)
    where
      last : m ≡ count → ⊥
      last e =
          let y : Among after count a = rw (e, entry_new) at x in
          false→¬T (test_bit set₀ a) (ripe-fresh (corner_row t a) set₀ a ripe) (inv.marked a (from-after count a (omega arith) y))

      earlier : (m ≡ count → ⊥) → ⊥
      earlier n = inv.lined.once m (omega arith) (from-after m (get_or order m 0) (omega arith) (rw (entry_old m (omega arith)) at x))

  behind : (m c : ℕ) → m < suc count → T (move? (grammar_in t) (get_or after m 0) c) → Among after m c
  unfolding Cornered
  behind m c l x = ⊎_elim last earlier (same? m count)
    where
      last : m ≡ count → Among after m c
      last e =
          let y : T (move? (grammar_in t) a c) = rw (e, entry_new) at x in
          let z = ripe-under (corner_row t a) set₀ a ripe c (rw (known.corners a c h) y) in
          rw e (to-after count c (omega arith) (inv.listed c z))

      earlier : (m ≡ count → ⊥) → Among after m c
      earlier n = to-after m c (omega arith) (inv.lined.behind m c (omega arith) (rw (entry_old m (omega arith)) at x))

  listed : (x : ℕ) → T (test_bit (set_bit set₀ a) x) → Among after (suc count) x
  listed x y =
      ⊎_elim (λ z. among-more after count (suc count) x (omega arith) (to-after count x (omega arith) (inv.listed x z)))
      (λ z. (count, omega arith, entry_new ∙ sym (eqb→eq x a z)))
      (or-T (test_bit set₀ x) (eqb x a) (rw (test-set set₀ a x) at y))

  marked : (x : ℕ) → Among after (suc count) x → T (test_bit (set_bit set₀ a) x)
  marked x (m, l, e) = rw (test-set set₀ a x) (⊎_elim last earlier (same? m count))
    where
      last : m ≡ count → T (test_bit set₀ x || eqb x a)
      last q =
          let z : x ≡ a = sym e ∙ (ap (λ (k : ℕ). get_or after k 0) q ∙ entry_new) in
          T-or-r (test_bit set₀ x) (eqb x a) (rw z (eqb_refl a))

      earlier : (m ≡ count → ⊥) → T (test_bit set₀ x || eqb x a)
      earlier n = T-or-l (test_bit set₀ x) (eqb x a) (inv.marked x (m, omega arith, sym (entry_old m (omega arith)) ∙ e))

  pub placing-more : Placing t after (set_bit set₀ a) (suc count)
  placing-more =
      record {
        long = length-set order count a ∙ inv.long;
        lined = record { named = named; once = once; behind = behind };
        listed = listed;
        marked = marked;
      }

-- as the code has it
pub placing-on : (t order : List ℕ) (set₀ count a : ℕ) {row set' count' : ℕ} {order' : List ℕ} {r : Bool} → Ready t
    → Placing t order set₀ count → a < nonterminals_in t → row ≡ corner_row t a → r ≡ ripe_of row set₀ a → r ≡ true → set'
    ≡ set_bit set₀ a
    → count' ≡ suc count → order' ≡ set order count a → Placing t order' set' count'
placing-on t order set₀ count a known inv h q e f x y z = rw (x, y, z) (placing-more t order set₀ count a known inv h (rw (← q, ← e) f))

pub placing-fits : (t order : List ℕ) (set₀ count a : ℕ) {row : ℕ} {r : Bool} → Ready t → Placing t order set₀ count
    → a < nonterminals_in t
    → row ≡ corner_row t a → r ≡ ripe_of row set₀ a → r ≡ true → count < length order
placing-fits t order set₀ count a known inv h q e f =
    let l = placing-space t order set₀ count a known inv h (rw (← q, ← e) f) in omega (arith, inv.long, known.fits.few)

-- ---- every nonterminal has a place
pub placing-all : (t order : List ℕ) (set₀ count : ℕ) → Ready t → Placing t order set₀ count → nonterminals_in t ≤ count → InOrder t order
placing-all t order set₀ count ready inv l =
    let e : count ≡ nonterminals_in t = omega (arith, most) in
    record {
      room = omega (arith, inv.long, ready.fits.few);
      lined = subst (λ (k : ℕ). Lined (grammar_in t) (nonterminals_in t) order k) e inv.lined;
      every = λ a h. subst (λ (k : ℕ). Among order k a) e (placing-few t order set₀ count inv l a h);
    }
  where
    most : count ≤ nonterminals_in t
    most =
        let x = pigeon (nonterminals_in t) (entries order count) (distinct (grammar_in t) (nonterminals_in t) order count inv.lined)
        (λ a m. below (grammar_in t) (nonterminals_in t) order count inv.lined a (entry-among order count a m)) in
        omega (arith, length-entries order count)
