-- Whether any two words say a configuration that may be stored, test by test.
use mathlib.Core.Path.{◌≡◌, refl, sym, ap, ◌∙◌}
use mathlib.Core.Bool.{Bool, true, false, ◌&&◌}
use Prim.Native.Nat.{ℕ, ◌*◌, ◌/◌, ◌%◌, ◌^◌, ◌≤◌, ◌<◌}
use native.Mathlib.Omega.{arith}
use native.Mathlib.Decide.{dec_le, dec_lt}
use lib.Dec.{T, eqb, leb, ltb}
use lib.ListN.{length}
use borrow.Author.Tests.{eq-eqb, ne_eqb, eqb-true, leb-true, le-leb, lt-leb, lt-ltb, le-ltb}
use Rattle.base.proofs.Booleans.{and_T, T_and, T→true, true→T}
use Rattle.grammar.specs.Limits.{max_productions}
use Rattle.lookahead.specs.Closing.{max_entries}
use Rattle.lookahead.specs.Order.{past_end, place_radix, alternative_radix, entries_radix, head_radix, stack_key, head_key}
use Rattle.configurations.specs.declared.config.Packed.{Packed}
use Rattle.configurations.specs.Packing.{storable?}
use Rattle.configurations.specs.inside.Packed.{return_bits, config_of, Exact, fits?}
use Rattle.configurations.proofs.ExactLaws.{place_is, alternative-is, entries-are, used}

-- the digits of a head that are used
head-used : (c : Packed) → head_key (config_of c) ≡ c.head % head_radix
unfolding head_key
head-used c =
    let u = c.head in
    let q = u / place_radix in
    let z : u / (place_radix * alternative_radix) ≡ q / alternative_radix = omega arith in
    let n : length (config_of c).stack ≡ q / alternative_radix % entries_radix = entries-are c ∙ ap (λ (x : ℕ). x % entries_radix) z in
    omega (arith, place_is c, alternative-is c, n)

module _ (c : Packed) where
  -- one way out for each test
  pub head-long : head_radix ≤ c.head → false ≡ fits? c
  unfolding fits?
  head-long l = rw (ne_eqb (head_key (config_of c)) c.head (λ e. omega (arith, head-used c, e))) refl

  module _ (l : c.head < head_radix) where
    head-same : head_key (config_of c) ≡ c.head
    head-same = omega (arith, head-used c)

    pub place-high : past_end < (config_of c).place → false ≡ fits? c
    unfolding fits? storable?
    place-high h = rw (eq-eqb (head_key (config_of c)) c.head head-same, lt-leb (config_of c).place past_end h) refl

    module _ (p : (config_of c).place ≤ past_end) where
      pub no-alternative : (config_of c).alternative ≡ 0 → false ≡ fits? c
      unfolding fits? storable?
      no-alternative h =
          rw (eq-eqb (head_key (config_of c)) c.head head-same, le-leb (config_of c).place past_end p, lt-leb 1 (config_of c).alternative (omega arith)) refl

      module _ (b : 1 ≤ (config_of c).alternative) where
        pub alternative-high : max_productions < (config_of c).alternative → false ≡ fits? c
        unfolding fits? storable?
        alternative-high h =
            rw (
              eq-eqb (head_key (config_of c)) c.head head-same,
              le-leb (config_of c).place past_end p,
              le-leb 1 (config_of c).alternative b,
              lt-leb (config_of c).alternative max_productions h,
            ) refl

        module _ (m : (config_of c).alternative ≤ max_productions) where
          pub stack-deep : max_entries < length (config_of c).stack → false ≡ fits? c
          unfolding fits? storable?
          stack-deep h =
              rw (
                eq-eqb (head_key (config_of c)) c.head head-same,
                le-leb (config_of c).place past_end p,
                le-leb 1 (config_of c).alternative b,
                le-leb (config_of c).alternative max_productions m,
                lt-leb (length (config_of c).stack) max_entries h,
              ) refl

          -- and then the digits of the stack decide
          pub stack-decides : {n x : ℕ} → n ≡ length (config_of c).stack → n ≤ max_entries → x ≡ c.stack % 2 ^ (return_bits * n) → eqb x c.stack ≡ fits? c
          unfolding fits? storable?
          stack-decides {n} {x} e h q =
              let y : x ≡ stack_key (config_of c).stack = q ∙ ap (λ (z : ℕ). c.stack % 2 ^ (return_bits * z)) (e ∙ entries-are c) ∙ sym (used c) in
              rw (
                eq-eqb (head_key (config_of c)) c.head head-same,
                le-leb (config_of c).place past_end p,
                le-leb 1 (config_of c).alternative b,
                le-leb (config_of c).alternative max_productions m,
                le-leb (length (config_of c).stack) max_entries (omega arith),
                y,
              ) refl

-- the tests in order, on numbers that the code reads
module _ (c : Packed) {n x : ℕ} (e : n ≡ length (config_of c).stack) (q : x ≡ c.stack % 2 ^ (return_bits * n)) where
  last-two : c.head < head_radix → (config_of c).place ≤ past_end → 1 ≤ (config_of c).alternative → (config_of c).alternative ≤ max_productions
      → (leb n max_entries && eqb x c.stack) ≡ fits? c
  last-two l p b m = go (dec_le n max_entries)
    where
      go : Dec (n ≤ max_entries) → (leb n max_entries && eqb x c.stack) ≡ fits? c
      go (yes h) = rw (le-leb n max_entries h) (stack-decides c l p b m e h q)
      go (no h) = rw (lt-leb n max_entries (omega arith)) (stack-deep c l p b m (omega arith))

  module _ {y : ℕ} (f : y ≡ (config_of c).alternative) where
    last-three : c.head < head_radix → (config_of c).place ≤ past_end → 1 ≤ y → ((leb y max_productions && leb n max_entries) && eqb x c.stack) ≡ fits? c
    last-three l p b = go (dec_le y max_productions)
      where
        go : Dec (y ≤ max_productions) → ((leb y max_productions && leb n max_entries) && eqb x c.stack) ≡ fits? c
        go (yes h) = rw (le-leb y max_productions h) (last-two l p (omega arith) (omega arith))
        go (no h) = rw (lt-leb y max_productions (omega arith)) (alternative-high c l p (omega arith) (omega arith))

    last-four : c.head < head_radix → (config_of c).place ≤ past_end
        → (((leb 1 y && leb y max_productions) && leb n max_entries) && eqb x c.stack) ≡ fits? c
    last-four l p = go (dec_le 1 y)
      where
        go : Dec (1 ≤ y) → (((leb 1 y && leb y max_productions) && leb n max_entries) && eqb x c.stack) ≡ fits? c
        go (yes h) = rw (le-leb 1 y h) (last-three l p h)
        go (no h) = rw (lt-leb 1 y (omega arith)) (no-alternative c l p (omega arith))

    module _ {z : ℕ} (g : z ≡ (config_of c).place) where
      last-five : c.head < head_radix → ((((leb z past_end && leb 1 y) && leb y max_productions) && leb n max_entries) && eqb x c.stack) ≡ fits? c
      last-five l = go (dec_le z past_end)
        where
          go : Dec (z ≤ past_end) → ((((leb z past_end && leb 1 y) && leb y max_productions) && leb n max_entries) && eqb x c.stack) ≡ fits? c
          go (yes h) = rw (le-leb z past_end h) (last-four l (omega arith))
          go (no h) = rw (lt-leb z past_end (omega arith)) (place-high c l (omega arith))

      -- all but the last
      abbrev Before : Bool
      Before = (((ltb c.head head_radix && leb z past_end) && leb 1 y) && leb y max_productions) && leb n max_entries

      all-tests : (Before && eqb x c.stack) ≡ fits? c
      all-tests = go (dec_lt c.head head_radix)
        where
          go : Dec (c.head < head_radix) → (Before && eqb x c.stack) ≡ fits? c
          go (yes h) = rw (lt-ltb c.head head_radix h) (last-five h)
          go (no h) = rw (le-ltb c.head head_radix (omega arith)) (head-long c (omega arith))

      module _ {s t u v : Bool} (s-is : s ≡ (ltb c.head head_radix && leb z past_end)) (t-is : t ≡ (s && leb 1 y))
          (u-is : u ≡ (t && leb y max_productions)) (v-is : v ≡ (u && leb n max_entries)) where
        w : v ≡ Before
        w =
            v-is ∙ ap (λ (b : Bool). b && leb n max_entries) (u-is ∙ ap (λ (b : Bool). b && leb y max_productions)
            (t-is ∙ ap (λ (b : Bool). b && leb 1 y) s-is))

        pub tests-on : v ≡ true → eqb x c.stack ≡ fits? c
        tests-on t = sym (ap (λ (b : Bool). b && eqb x c.stack) (sym w ∙ t)) ∙ all-tests

        pub tests-off : v ≡ false → v ≡ fits? c
        tests-off t = t ∙ sym (ap (λ (b : Bool). b && eqb x c.stack) (sym w ∙ t)) ∙ all-tests

-- a test behind one that holds, and behind one that does not
pub test-on : {t v b : Bool} → t ≡ true → v ≡ b → v ≡ (t && b)
test-on e f = rw e f

pub test-off : {t v : Bool} (b : Bool) → t ≡ false → v ≡ t → v ≡ (t && b)
test-off b e f = rw e (f ∙ e)

-- ---- what the test decides
pub record Fitting (c : Packed) : Type 0 where
  pub exact : Exact c
  pub stored : T (storable? (config_of c))

pub fits-T : (c : Packed) → T (fits? c) → Fitting c
unfolding fits? storable?
fits-T c t =
    let k = config_of c in
    let stack = eqb (stack_key k.stack) c.stack in
    let (h, rest) = and_T (eqb (head_key k) c.head) (storable? k && stack) t in
    let (s, q) = and_T (storable? k) stack rest in
    let (p, s2) = and_T (leb k.place past_end) (leb 1 k.alternative && (leb k.alternative max_productions && leb (length k.stack) max_entries)) s in
    let (b, s3) = and_T (leb 1 k.alternative) (leb k.alternative max_productions && leb (length k.stack) max_entries) s2 in
    let (m, d) = and_T (leb k.alternative max_productions) (leb (length k.stack) max_entries) s3 in
    record {
      exact = record {
        head = eqb-true (head_key k) c.head (T→true (eqb (head_key k) c.head) h);
        stack = eqb-true (stack_key k.stack) c.stack (T→true stack q);
        shallow = leb-true (length k.stack) max_entries (T→true (leb (length k.stack) max_entries) d);
      };
      stored = s;
    }

pub T-fits : (c : Packed) → head_key (config_of c) ≡ c.head → stack_key (config_of c).stack ≡ c.stack → T (storable? (config_of c)) → T (fits? c)
unfolding fits?
T-fits c h q s =
    let k = config_of c in
    let stack = eqb (stack_key k.stack) c.stack in
    T_and (eqb (head_key k) c.head) (storable? k && stack) (true→T (eqb (head_key k) c.head) (eq-eqb (head_key k) c.head h))
    (T_and (storable? k) stack s (true→T stack (eq-eqb (stack_key k.stack) c.stack q)))
