-- The fields of a slot, as the code reads them.
use mathlib.Core.Path.{◌≡◌, refl, sym, ap, ◌∙◌}
use mathlib.Core.List.{List}
use Prim.Native.Nat.{ℕ, suc, ◌+◌, ◌-◌, ◌*◌, ◌≤◌, ◌<◌, min}
use native.Mathlib.Numerals.{add-one}
use native.Mathlib.Omega.{arith}
use lib.ListN.{length, get_or, take, drop}
use Rattle.lookahead.specs.Closing.{max_kept}
use Rattle.configurations.specs.Packing.{config_words}
use Rattle.words.specs.Layout.{slot_head, max_slots, slots, slot_at, count_at, configs_at}
use Rattle.words.specs.Words.{kept_count, kept_words}
use Rattle.words.proofs.WordLaws.{slot-within}

-- ---- slots
pub slot-few : (l s : ℕ) → s < slots l → s ≤ max_slots
unfolding slots
slot-few l s h = omega arith

-- what slot s says of its count, which was read as v at i
pub count-is : (c : List ℕ) (s : ℕ) {at v : ℕ} → v ≡ get_or c (at + 1) 0 → at ≡ slot_at s → kept_count c s ≡ min max_kept v
unfolding kept_count
count-is c s {at} {v} e f = let z : at + 1 ≡ count_at s = add-one at ∙ ap suc f in ap (min max_kept) (sym (e ∙ ap (λ (i : ℕ). get_or c i 0) z))

-- the words of its configurations
pub kept-within : (c : List ℕ) (s : ℕ) → s < slots (length c) → configs_at s + config_words * kept_count c s ≤ length c
unfolding kept_count
kept-within c s h = omega (arith, slot-within (length c) s h)

pub kept-are : (c : List ℕ) (s : ℕ) {at n : ℕ} → at ≡ slot_at s → n ≡ kept_count c s
    → take (at + slot_head + config_words * n - (at + slot_head)) (drop (at + slot_head) c) ≡ kept_words c s
unfolding kept_words
kept-are c s {at} {n} e f = let z : at + slot_head + config_words * n - (at + slot_head) ≡ config_words * n = omega arith in rw (z, e, f) refl
