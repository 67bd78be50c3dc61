-- Any words say configurations whose digits fit.
use mathlib.Core.Path.{◌≡◌, refl, sym, subst}
use mathlib.Core.Logic.{◌⊎◌, inl, inr}
use mathlib.Core.List.Memᴰ
use mathlib.Core.List.{List, [], ◌∷◌}
use Prim.Native.Nat.{ℕ, zero, suc, ◌+◌, ◌*◌, ◌/◌, ◌%◌, ◌<◌}
use native.Mathlib.Omega.{arith}
use lib.ListN.{length}
use Rattle.lookahead.specs.Configs.{In}
use Rattle.lookahead.specs.Order.{place_radix, alternative_radix, entries_radix, return_radix, Packable}
use Rattle.lookahead.specs.Rules.{Each}
use Rattle.configurations.specs.Packing.{digits, unpack, word_radix, unpack_all}

pub length_digits : (n x : ℕ) → length (digits n x) ≡ n
unfolding digits
length_digits zero x = refl
length_digits (suc n) x = let h = length_digits n (x / return_radix) in omega arith

digits_low : (n x : ℕ) → Each (λ (r : ℕ). r < return_radix) (digits n x)
unfolding digits
digits_low zero x r m = absurd (Memᴰ.not-nil m)
digits_low (suc n) x r m = go (Memᴰ.cases_cons m) (digits_low n (x / return_radix) r)
  where
    go : (r ≡ x % return_radix) ⊎ In r (digits n (x / return_radix)) → (In r (digits n (x / return_radix)) → r < return_radix) → r < return_radix
    go (inl e) rec = omega arith
    go (inr i) rec = rec i

remainder-place : (u : ℕ) → u % place_radix < place_radix
remainder-place u = omega arith

remainder-alternative : (u : ℕ) → u % alternative_radix < alternative_radix
remainder-alternative u = omega arith

remainder-entries : (u : ℕ) → u % entries_radix < entries_radix
remainder-entries u = omega arith

pub unpack-packable : (u x : ℕ) → Packable (unpack u x)
unfolding unpack
unpack-packable u x =
    let n = u / (place_radix * alternative_radix) % entries_radix in
    let l : n < entries_radix = remainder-entries (u / (place_radix * alternative_radix)) in
    record {
      place = remainder-place u;
      alternative = remainder-alternative (u / place_radix);
      entries = rw (length_digits n x) l;
      returns = digits_low n x;
    }

pub unpacked : (ws : List ℕ) → Each Packable (unpack_all ws)
unfolding unpack_all
unpacked [] k m = absurd (Memᴰ.not-nil m)
unpacked (u ∷ []) k m = absurd (Memᴰ.not-nil m)
unpacked (u ∷ v ∷ []) k m = absurd (Memᴰ.not-nil m)
unpacked (u ∷ v ∷ w ∷ l) k m = go (Memᴰ.cases_cons m) (unpacked l k)
  where
    go : (k ≡ unpack u (v + word_radix * w)) ⊎ In k (unpack_all l) → (In k (unpack_all l) → Packable k) → Packable k
    go (inl e) rec = subst Packable (sym e) (unpack-packable u (v + word_radix * w))
    go (inr i) rec = rec i
