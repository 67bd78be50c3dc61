-- Words after stores: one law for a store and one for a run of stores, and the fields that follow from them.
use mathlib.Core.Path.{◌≡◌, refl, sym, ap, ◌∙◌}
use mathlib.Core.Logic.{◌⊎◌, inl, inr, ◌≢◌}
use mathlib.Core.List.{List, [], ◌∷◌, ◌++◌, append_assoc}
use Prim.Native.Nat.{ℕ, suc, ◌+◌, ◌*◌, ◌≤◌, ◌<◌, min}
use native.Mathlib.Omega.{arith}
use lib.ListN.{length, set, take, drop, length-set, length-take, length-drop}
use lib.Seq.{sets, length-sets, sets-eq, take_at, drop_at, length-take-le, ext_get_or, get_or-take, get_or-drop, get_or-set_same, get_or-set_other}
use Rattle.lookahead.specs.Configs.{Config}
use Rattle.lookahead.specs.Closing.{max_kept}
use Rattle.configurations.specs.Packing.{pack_all, config_words}
use Rattle.configurations.proofs.PackLaws.{length-pack_all}
use Rattle.words.specs.Layout.{kept_room, slot_words, slots, held_at, slot_at, count_at, configs_at}
use Rattle.words.specs.Words.{word, held, decision, kept_count, kept_words, add_state}

-- ---- stores
-- a word that a run of stores does not meet
pub word-sets : (c : List ℕ) (i j : ℕ) (vs : List ℕ) → (j < i) ⊎ (i + length vs ≤ j) → word (sets c i vs) j ≡ word c j
word-sets c i j [] h = refl
word-sets c i j (v ∷ vs) h = word-sets (set c i v) (suc i) j vs (later h) ∙ get_or-set_other c i j v 0 (apart h)
  where
    later : (j < i) ⊎ (i + length (v ∷ vs) ≤ j) → (j < suc i) ⊎ (suc i + length vs ≤ j)
    later (inl l) = inl (omega arith)
    later (inr l) = inr (omega arith)

    apart : (j < i) ⊎ (i + length (v ∷ vs) ≤ j) → j ≢ i
    apart (inl l) e = omega arith
    apart (inr l) e = omega arith

-- the words of a run of stores
pub region-sets : (c : List ℕ) (i : ℕ) (vs : List ℕ) → i + length vs ≤ length c → take (length vs) (drop i (sets c i vs)) ≡ vs
region-sets c i vs h =
    ap (λ (l : List ℕ). take (length vs) (drop i l)) (sets-eq vs c i h ∙ append_assoc (take i c) vs (drop (i + length vs) c))
    ∙ ap (take (length vs)) (drop_at (take i c) (vs ++ drop (i + length vs) c) i (length-take-le i c (omega arith)))
    ∙ take_at vs (drop (i + length vs) c) (length vs) refl

-- ---- regions
-- words that two caches of the same length hold alike
pub region-same : (c c' : List ℕ) (n m : ℕ) → length c' ≡ length c → ((i : ℕ) → n ≤ i → i < n + m → word c' i ≡ word c i)
    → take m (drop n c') ≡ take m (drop n c)
region-same c c' n m e f =
    let l = length-take m (drop n c) in
    let l' = length-take m (drop n c') in
    let d = length-drop n c in
    let d' = length-drop n c' in
    ext_get_or 0 (take m (drop n c')) (take m (drop n c)) (omega arith)
    (λ i k.
    let b : i < m = omega arith in
    get_or-take m (drop n c') i 0 b ∙ get_or-drop n c' i 0 ∙ f (n + i) (omega arith) (omega arith) ∙ sym (get_or-drop n c i 0)
    ∙ sym (get_or-take m (drop n c) i 0 b))

-- the configurations of a slot whose count and room are held alike
pub kept_same : (c c' : List ℕ) (s : ℕ) → length c' ≡ length c → word c' (count_at s) ≡ word c (count_at s)
    → ((i : ℕ) → configs_at s ≤ i → i < configs_at s + kept_room → word c' i ≡ word c i) → kept_words c' s ≡ kept_words c s
unfolding kept_words kept_count
kept_same c c' s l e f =
    ap (λ (n : ℕ). take (config_words * min max_kept n) (drop (configs_at s) c')) e
    ∙ region-same c c' (configs_at s) (config_words * min max_kept (word c (count_at s))) l (λ i h k. f i h (omega arith))

pub kept-room : (c : List ℕ) (s : ℕ) → length (kept_words c s) ≤ kept_room
unfolding kept_words kept_count
kept-room c s = omega (arith, length-take (config_words * min max_kept (word c (count_at s))) (drop (configs_at s) c))

-- ---- slots
-- a slot lies within the words
pub slot-within : (l s : ℕ) → s < slots l → slot_at s + slot_words ≤ l
unfolding slots
slot-within l s h = omega arith

-- a slot within the words has all the words of its configurations
pub kept-long : (c : List ℕ) (s : ℕ) → s < slots (length c) → length (kept_words c s) ≡ config_words * kept_count c s
unfolding kept_words kept_count
kept-long c s h =
    omega (arith, slot-within (length c) s h, length-take (config_words * kept_count c s) (drop (configs_at s) c), length-drop (configs_at s) c)

-- ---- a new state
-- what the words are after a state took the next slot
pub record Added (c : List ℕ) (a : ℕ) (ks : List Config) (c' : List ℕ) : Type 0 where
  pub as_long : length c' ≡ length c
  pub now-held : held c' ≡ suc (held c)
  pub its-decision : decision c' (held c) ≡ a
  pub its-count : word c' (count_at (held c)) ≡ length ks
  pub its-words : kept_words c' (held c) ≡ pack_all ks
  pub elsewhere : (j : ℕ) → j ≢ held_at → j ≢ slot_at (held c) → j ≢ count_at (held c)
      → (j < configs_at (held c)) ⊎ (configs_at (held c) + length (pack_all ks) ≤ j) → word c' j ≡ word c j

module _ (c : List ℕ) (a : ℕ) (ks : List Config) (room : held c < slots (length c)) (few : length ks ≤ max_kept) where
  -- the decision and the count, then the configurations, then one more state is held
  abbrev counted : List ℕ
  counted = set (set c (slot_at (held c)) a) (count_at (held c)) (length ks)

  abbrev filled : List ℕ
  filled = sets counted (configs_at (held c)) (pack_all ks)

  abbrev after : List ℕ
  after = set filled held_at (suc (held c))

  within : slot_at (held c) + slot_words ≤ length c
  within = slot-within (length c) (held c) room

  long-counted : length counted ≡ length c
  long-counted = length-set (set c (slot_at (held c)) a) (count_at (held c)) (length ks) ∙ length-set c (slot_at (held c)) a

  long_filled : length filled ≡ length c
  long_filled = length-sets counted (configs_at (held c)) (pack_all ks) ∙ long-counted

  over-held : (j : ℕ) → j ≢ held_at → word after j ≡ word filled j
  over-held j h = get_or-set_other filled held_at j (suc (held c)) 0 h

  under : (j : ℕ) → (j < configs_at (held c)) ⊎ (configs_at (held c) + length (pack_all ks) ≤ j) → word filled j ≡ word counted j
  under j h = word-sets counted (configs_at (held c)) j (pack_all ks) h

  added-count : word after (count_at (held c)) ≡ length ks
  added-count =
      over-held (count_at (held c)) (λ e. omega arith) ∙ under (count_at (held c)) (inl (omega arith))
      ∙ get_or-set_same (set c (slot_at (held c)) a) (count_at (held c)) (length ks) 0 (omega (arith, within, length-set c (slot_at (held c)) a))

  added-region : take (length (pack_all ks)) (drop (configs_at (held c)) after) ≡ pack_all ks
  added-region =
      region-same filled after (configs_at (held c)) (length (pack_all ks)) (length-set filled held_at (suc (held c))) (λ i h k. over-held i (λ e. omega arith))
      ∙ region-sets counted (configs_at (held c)) (pack_all ks) (omega (arith, long-counted, within, length-pack_all ks))

  added-kept : kept_words after (held c) ≡ pack_all ks
  unfolding kept_words kept_count
  added-kept =
      let e : config_words * min max_kept (word after (count_at (held c))) ≡ length (pack_all ks) = omega (arith, added-count, length-pack_all ks) in
      ap (λ (m : ℕ). take m (drop (configs_at (held c)) after)) e ∙ added-region

  added-held : held after ≡ suc (held c)
  unfolding held
  added-held = get_or-set_same filled held_at (suc (word c held_at)) 0 (omega (arith, long_filled, within))

  added-decision : decision after (held c) ≡ a
  unfolding decision
  added-decision =
      over-held (slot_at (held c)) (λ e. omega arith) ∙ under (slot_at (held c)) (inl (omega arith))
      ∙ get_or-set_other (set c (slot_at (held c)) a) (count_at (held c)) (slot_at (held c)) (length ks) 0 (λ e. omega arith)
      ∙ get_or-set_same c (slot_at (held c)) a 0 (omega (arith, within))

  pub added : Added c a ks (add_state c a ks)
  unfolding add_state
  added = record {
    as_long = length-set filled held_at (suc (held c)) ∙ long_filled;
    now-held = added-held;
    its-decision = added-decision;
    its-count = added-count;
    its-words = added-kept;
    elsewhere = λ j h k l o.
        over-held j h ∙ under j o ∙ get_or-set_other (set c (slot_at (held c)) a) (count_at (held c)) j (length ks) 0 l
        ∙ get_or-set_other c (slot_at (held c)) j a 0 k;
  }
