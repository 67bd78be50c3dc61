-- Packed words say the configurations that they were packed from.
use mathlib.Core.Path.{◌≡◌, refl, ap, ◌∙◌}
use mathlib.Core.List.Memᴰ
use mathlib.Core.List.{List, [], ◌∷◌}
use Prim.Native.Nat.{ℕ, ◌+◌, ◌*◌, ◌/◌, ◌%◌, ◌<◌}
use native.Mathlib.Omega.{arith}
use lib.ListN.{length}
use Rattle.lookahead.specs.Configs.{Config}
use Rattle.lookahead.specs.Order.{place_radix, alternative_radix, entries_radix, return_radix, stack_key, head_key, Packable}
use Rattle.configurations.specs.Packing.{digits, unpack, config_words, word_radix, pack, pack_all, unpack_all}
use Rattle.lookahead.specs.Rules.{Each}

-- the lowest digit and the others
low : (r x : ℕ) → r < return_radix → (r + return_radix * x) % return_radix ≡ r
low r x h = omega arith

high : (r x : ℕ) → r < return_radix → (r + return_radix * x) / return_radix ≡ x
high r x h = omega arith

-- the digits of a stack's key
pub digits-key : (s : List ℕ) → Each (λ (r : ℕ). r < return_radix) s → digits (length s) (stack_key s) ≡ s
unfolding digits stack_key
digits-key [] h = refl
digits-key (r ∷ s) h =
    let b = h r (Memᴰ.head refl) in
    let p = low r (stack_key s) b in
    let q = ap (digits (length s)) (high r (stack_key s) b) ∙ digits-key s (λ x m. h x (Memᴰ.tail m)) in
    λ i. p i ∷ q i

-- the digits of a head
module _ (p a n : ℕ) (hp : p < place_radix) (ha : a < alternative_radix) (hn : n < entries_radix) where
  abbrev head : ℕ
  head = p + place_radix * (a + alternative_radix * n)

  head-place : head % place_radix ≡ p
  head-place = omega arith

  head-rest : head / place_radix ≡ a + alternative_radix * n
  head-rest = omega arith

  rest-alternative : (a + alternative_radix * n) % alternative_radix ≡ a
  rest-alternative = omega arith

  head-alternative : head / place_radix % alternative_radix ≡ a
  head-alternative = ap (λ (x : ℕ). x % alternative_radix) head-rest ∙ rest-alternative

  head-above : head / (place_radix * alternative_radix) ≡ n
  head-above = omega arith

  above-entries : n % entries_radix ≡ n
  above-entries = omega arith

  head-entries : head / (place_radix * alternative_radix) % entries_radix ≡ n
  head-entries = ap (λ (x : ℕ). x % entries_radix) head-above ∙ above-entries

pub unpack-key : (c : Config) → Packable c → unpack (head_key c) (stack_key c.stack) ≡ c
unfolding unpack head_key
unpack-key c h =
    let n = length c.stack in
    let p = head-place c.place c.alternative n h.place h.alternative h.entries in
    let a = head-alternative c.place c.alternative n h.place h.alternative h.entries in
    let e = head-entries c.place c.alternative n h.place h.alternative h.entries in
    let s = ap (λ (m : ℕ). digits m (stack_key c.stack)) e ∙ digits-key c.stack h.returns in
    λ i. record { place = p i; alternative = a i; stack = s i }

-- a number in two words
pub joined : (x : ℕ) → x % word_radix + word_radix * (x / word_radix) ≡ x
joined x = omega arith

pub unpack-all : (ks : List Config) → Each Packable ks → unpack_all (pack_all ks) ≡ ks
unfolding pack_all pack unpack_all
unpack-all [] h = refl
unpack-all (c ∷ ks) h =
    let p = ap (unpack (head_key c)) (joined (stack_key c.stack)) ∙ unpack-key c (h c (Memᴰ.head refl)) in
    let q = unpack-all ks (λ x m. h x (Memᴰ.tail m)) in
    λ i. p i ∷ q i

pub length-pack_all : (ks : List Config) → length (pack_all ks) ≡ config_words * length ks
unfolding pack_all pack
length-pack_all [] = refl
length-pack_all (c ∷ ks) = let h = length-pack_all ks in omega arith
