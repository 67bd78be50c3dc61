-- Exact configurations: what the code makes of one is exact again.
use mathlib.Core.Path.{◌≡◌, refl, sym, subst, ap, ◌∙◌}
use mathlib.Core.Logic.{◌⊎◌, inl, inr}
use mathlib.Core.List.Memᴰ
use mathlib.Core.List.{List, [], ◌∷◌}
use Prim.Native.Nat.{ℕ, zero, suc, ◌+◌, ◌-◌, ◌*◌, ◌/◌, ◌%◌, ◌^◌, ◌≤◌, ◌<◌}
use native.Mathlib.Nat.{mod-lt, mod-eq_of_lt}
use native.Mathlib.Omega.{arith}
use lib.ListN.{length}
use lib.Bits.{bit_and, and_mask}
use lib.Pow.{mod-pow-add, pow_mono, pow_pos}
use Rattle.base.proofs.Bits.{shl_one}
use Rattle.grammar.specs.Limits.{max_productions, end_place}
use Rattle.lookahead.specs.Configs.{Config, config, into, In}
use Rattle.lookahead.specs.Closing.{max_entries}
use Rattle.lookahead.specs.Order.{place_radix, alternative_radix, entries_radix, return_radix, head_radix, stack_key, head_key, Packable}
use Rattle.lookahead.specs.Outcomes.{onward}
use Rattle.configurations.specs.declared.config.Packed.{Packed}
use Rattle.configurations.specs.Packing.{digits, unpack}
use Rattle.configurations.specs.inside.Packed.{return_bits, config_of, Exact, Packs, MayPush, Pops}
use Rattle.configurations.proofs.PackLaws.{unpack-key}
use Rattle.configurations.proofs.UnpackLaws.{length_digits, unpack-packable}

-- ---- digits
key-digits : (n x : ℕ) → stack_key (digits n x) ≡ x % 2 ^ (return_bits * n)
unfolding digits stack_key
key-digits zero x = omega arith
key-digits (suc n) x =
    let e : return_bits * suc n ≡ return_bits * n + return_bits = omega arith in
    let h : x % 2 ^ (return_bits * n + return_bits) ≡ (x / return_radix % 2 ^ (return_bits * n)) * return_radix + x % return_radix
    = mod-pow-add x (return_bits * n) return_bits in
    let r = key-digits n (x / return_radix) in
    rw e (omega (arith, h, r))

-- ---- any packed configuration
module _ (c : Packed) where
  pub packed-fits : Packable (config_of c)
  unfolding config_of
  packed-fits = unpack-packable c.head c.stack

  pub place_is : (config_of c).place ≡ c.head % place_radix
  unfolding config_of unpack
  place_is = refl

  pub alternative-is : (config_of c).alternative ≡ c.head / place_radix % alternative_radix
  unfolding config_of unpack
  alternative-is = refl

  pub entries-are : length (config_of c).stack ≡ c.head / (place_radix * alternative_radix) % entries_radix
  unfolding config_of unpack
  entries-are = length_digits (c.head / (place_radix * alternative_radix) % entries_radix) c.stack

  -- the stack's digits that are used
  pub used : stack_key (config_of c).stack ≡ c.stack % 2 ^ (return_bits * (c.head / (place_radix * alternative_radix) % entries_radix))
  unfolding config_of unpack
  used = key-digits (c.head / (place_radix * alternative_radix) % entries_radix) c.stack

-- ---- exact ones
-- the words of a configuration that fits and is not too deep
pub exact-of : (k : Config) → Packable k → length k.stack ≤ max_entries → {c : Packed} → c.head ≡ head_key k → c.stack
    ≡ stack_key k.stack → Packs c k
unfolding config_of
exact-of k h s {c} p q =
    let e : config_of c ≡ k = (λ i. unpack (p i) (q i)) ∙ unpack-key k h in
    let l : length (config_of c).stack ≡ length k.stack = ap (λ (d : Config). length d.stack) e in
    record {
      exact = record { head = ap head_key e ∙ sym p; stack = ap (λ (d : Config). stack_key d.stack) e ∙ sym q; shallow = omega (arith, l) };
      is = e;
    }

module _ (c : Packed) (e : Exact c) where
  abbrev k : Config
  k = config_of c

  -- the other digits of an exact head
  pub exact-rest : c.head / place_radix ≡ k.alternative + alternative_radix * length k.stack
  unfolding head_key
  exact-rest = let h = e.head in let l = (packed-fits c).place in omega arith

  pub exact-small : c.head < head_radix
  unfolding head_key
  exact-small = let h = packed-fits c in let p = e.head in omega (arith, h.place, h.alternative, h.entries)

  exact-low : c.stack < 2 ^ (return_bits * length k.stack)
  exact-low =
      let n = c.head / (place_radix * alternative_radix) % entries_radix in
      rw (entries-are c) (subst (λ (z : ℕ). z < 2 ^ (return_bits * n)) (sym (used c) ∙ e.stack) (mod-lt c.stack (pow_pos (return_bits * n))))

  -- a stack that is not full leaves room for one more
  pub exact-room : length k.stack < max_entries → c.stack < 2 ^ (return_bits * (max_entries - 1))
  exact-room h =
      let b : 2 ^ (return_bits * length k.stack) ≤ 2 ^ (return_bits * (max_entries - 1))
      = pow_mono {i = return_bits * length k.stack} {j = return_bits * (max_entries - 1)} (omega arith) in
      omega (arith, exact-low, b)

  pub at-is : (p : ℕ) → p ≤ end_place → {d : Packed} → d.head ≡ c.head / place_radix * place_radix + p → d.stack ≡ c.stack
      → Packs d (config p k.alternative k.stack)
  unfolding head_key
  at-is p l q s =
      let h = packed-fits c in
      exact-of (config p k.alternative k.stack)
      (record { place = omega arith; alternative = h.alternative; entries = h.entries; returns = h.returns })
      e.shallow
      (omega (arith, q, exact-rest))
      (s ∙ sym e.stack)

  pub entered-is : (f : ℕ) → MayPush c f → length k.stack < max_entries → {d : Packed} → d.head
      ≡ (c.head / place_radix + alternative_radix) * place_radix + f
      → d.stack ≡ c.stack * return_radix + (c.head % place_radix + 1) → Packs d (into k f)
  unfolding head_key stack_key
  entered-is f w d q r =
      let h = packed-fits c in
      exact-of (into k f)
      (record {
        place = omega (arith, w.begins);
        alternative = h.alternative;
        entries = omega arith;
        returns =
            λ s i. in-cons s (Memᴰ.cases_cons i);
      })
      (omega arith)
      (omega (arith, q, exact-rest))
      (omega (arith, r, place_is c, e.stack))
    where
      in-cons : (s : ℕ) → (s ≡ suc k.place) ⊎ In s k.stack → s < return_radix
      in-cons s (inl z) = omega (arith, w.before)
      in-cons s (inr m) = (packed-fits c).returns s m

  pub popped-is : 0 < length k.stack → {d : Packed} → d.head ≡ (c.head / place_radix - alternative_radix) * place_radix + c.stack % return_radix
      → d.stack ≡ c.stack / return_radix → Pops c d
  unfolding head_key stack_key
  popped-is n {d} q r = go k.stack refl
    where
      go : (s : List ℕ) → k.stack ≡ s → Pops c d
      go [] z = absurd (omega (arith, ap length z))
      go (a ∷ s) z = tell (exact-of (config a k.alternative s) fits small head rest)
        where
          h : Packable k
          h = packed-fits c

          returns : (b : ℕ) → In b (a ∷ s) → b < return_radix
          returns b m = h.returns b (subst (In b) (sym z) m)

          long : length k.stack ≡ suc (length s)
          long = ap length z

          digit : c.stack ≡ a + return_radix * stack_key s
          digit = sym e.stack ∙ ap stack_key z

          fits : Packable (config a k.alternative s)
          fits = record {
            place = omega (arith, returns a (Memᴰ.head refl));
            alternative = h.alternative;
            entries = omega (arith, long, h.entries);
            returns = λ b m. returns b (Memᴰ.tail m);
          }

          small : length s ≤ max_entries
          small = omega (arith, long, e.shallow)

          head : d.head ≡ a + place_radix * (k.alternative + alternative_radix * length s)
          head = omega (arith, q, exact-rest, long, digit, returns a (Memᴰ.head refl))

          rest : d.stack ≡ stack_key s
          rest = omega (arith, r, digit, returns a (Memᴰ.head refl))

          tell : Packs d (config a k.alternative s) → Pops c d
          tell w = record {
            exact = w.exact;
            stack = z ∙ sym (λ i. (w.is i).place ∷ (w.is i).stack);
            alternative = ap (λ (y : Config). y.alternative) w.is;
          }

pub begun-is : (f b : ℕ) → f ≤ end_place → b ≤ max_productions → {c : Packed} → c.head ≡ b * place_radix + f → c.stack ≡ 0
    → Packs c (config f b [])
unfolding head_key stack_key
begun-is f b h l q s =
    exact-of (config f b []) (record
    { place = omega arith; alternative = omega arith; entries = omega arith; returns = λ r m. absurd (Memᴰ.not-nil m) })
    (omega arith)
    (omega (arith, q))
    s

-- ---- one place on
-- the digits of a head, one place on
onward-head : (u : ℕ) → u % place_radix ≤ end_place
    → u % head_radix + 1 ≡ suc (u % place_radix) + place_radix *
    (u / place_radix % alternative_radix + alternative_radix * (u / (place_radix * alternative_radix) % entries_radix))
onward-head u h = omega arith

pub onward-is : (c : Packed) → (config_of c).place ≤ end_place → length (config_of c).stack ≤ max_entries → {n : ℕ} → n ≡ length (config_of c).stack
    → {d : Packed} → d.head ≡ c.head % head_radix + 1 → d.stack ≡ c.stack % 2 ^ (return_bits * n) → Packs d (onward (config_of c))
unfolding head_key
onward-is c h l {n} m {d} q r =
    let k = packed-fits c in
    let p : c.head % place_radix ≤ end_place = omega (arith, place_is c) in
    let z : d.head ≡ suc (config_of c).place + place_radix * ((config_of c).alternative + alternative_radix * length (config_of c).stack)
    = rw (entries-are c, place_is c, alternative-is c) (q ∙ onward-head c.head p) in
    let s : d.stack ≡ stack_key (config_of c).stack = r ∙ ap (λ (y : ℕ). c.stack % 2 ^ (return_bits * y)) (m ∙ entries-are c) ∙ sym (used c) in
    exact-of (onward (config_of c)) (record { place = omega arith; alternative = k.alternative; entries = k.entries; returns = k.returns }) l z s

-- ---- the lowest digits of a stack
-- 1 << return_bits * n in 64 bits
shifted : (n : ℕ) → n < max_entries → 1 * 2 ^ (return_bits * n) % 2 ^ 64 ≡ 2 ^ (return_bits * n)
shifted n h = shl_one 64 (return_bits * n) (omega arith)

pub lowest-one : (n : ℕ) → n < max_entries → 1 ≤ 1 * 2 ^ (return_bits * n) % 2 ^ 64
lowest-one n h = rw (shifted n h) (pow_pos (return_bits * n))

pub lowest-all : (x n : ℕ) → x < 2 ^ 64 → n ≡ max_entries → x ≡ x % 2 ^ (return_bits * n)
lowest-all x n h e = rw e (sym (mod-eq_of_lt h))

pub lowest-some : (x n : ℕ) → n < max_entries → bit_and x (1 * 2 ^ (return_bits * n) % 2 ^ 64 - 1) ≡ x % 2 ^ (return_bits * n)
lowest-some x n h = rw (shifted n h) (and_mask x (return_bits * n))
