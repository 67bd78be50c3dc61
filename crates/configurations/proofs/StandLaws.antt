-- The words of members that stand side by side are those of a state.
use mathlib.Core.Path.{◌≡◌, refl, sym, ap, ◌∙◌}
use mathlib.Core.List.{List, [], ◌∷◌, ◌++◌}
use Prim.Native.Nat.{ℕ, zero, suc, ◌+◌, ◌*◌, ◌/◌, ◌%◌, ◌≤◌, ◌<◌}
use native.Mathlib.Omega.{arith}
use lib.ListN.{get_or, take, drop}
use Rattle.configurations.specs.Packing.{config_words, word_radix, pack, pack_all}
use Rattle.configurations.specs.inside.Packed.{Exact, packed_at}
use Rattle.configurations.specs.inside.Held.{config_at, configs_from, Room}
use Rattle.configurations.proofs.WordLaws.{words-next}
use Rattle.configurations.proofs.HeldLaws.{member-has}

-- words that are words of the code
abbrev pub Words : List ℕ → Type 0
Words ws = (i : ℕ) → get_or ws i 0 < word_radix

-- the words of one
pub pack-at : (ws : List ℕ) (k : ℕ) → Words ws → Exact (packed_at ws k) → pack (config_at ws k)
    ≡ get_or ws (config_words * k) 0 ∷ get_or ws (config_words * k + 1) 0 ∷ get_or ws (config_words * k + 2) 0 ∷ []
unfolding pack config_at packed_at
pack-at ws k small e =
    let x = get_or ws (config_words * k + 1) 0 in
    let y = get_or ws (config_words * k + 2) 0 in
    let low : (x + word_radix * y) % word_radix ≡ x = omega (arith, small (config_words * k + 1)) in
    let high : (x + word_radix * y) / word_radix ≡ y = omega (arith, small (config_words * k + 1)) in
    λ i. e.head i ∷ (ap (λ (s : ℕ). s % word_radix) e.stack ∙ low) i ∷ (ap (λ (s : ℕ). s / word_radix) e.stack ∙ high) i ∷ []

-- the words of some
pub words-stand : {ws : List ℕ} {n : ℕ} → Room ws n → Words ws → (f m : ℕ) → f + m ≤ n → take (config_words * m) (drop (config_words * f) ws)
    ≡ pack_all (configs_from ws f m)
unfolding pack_all configs_from
words-stand {ws} {n} room small f zero l = refl
words-stand {ws} {n} room small f (suc m) l =
    let z : config_words * suc m ≡ suc (suc (suc (config_words * m))) = omega arith in
    let x = get_or ws (config_words * f) 0 in
    let y = get_or ws (config_words * f + 1) 0 in
    let w = get_or ws (config_words * f + 2) 0 in
    let rest = words-stand room small (suc f) m (omega arith) in
    (λ i. take (z i) (words-next ws f (member-has room f (omega arith)) i))
    ∙ ap (λ (l : List ℕ). x ∷ y ∷ w ∷ l) rest
    ∙ ap (λ (l : List ℕ). l ++ pack_all (configs_from ws (suc f) m)) (sym (pack-at ws f small (room.exact f (omega arith))))
