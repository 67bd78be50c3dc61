-- What stays in any words, coherent or not, when an outcome is recorded: every word that says something, but the count of states.
use mathlib.Core.Path.{◌≡◌, refl, sym, ap, ◌∙◌}
use mathlib.Core.Logic.{◌⊎◌, inl, inr, ◌≢◌}
use mathlib.Core.List.{List}
use Prim.Native.Nat.{ℕ, ◌+◌, ◌≤◌, ◌<◌}
use native.Mathlib.Omega.{arith}
use lib.ListN.{length, set, length-set}
use lib.Seq.{get_or-set_other}
use Rattle.grammar.specs.Grammar.{Grammar}
use Rattle.lookahead.specs.Configs.{Config}
use Rattle.lookahead.specs.Closing.{max_kept}
use Rattle.configurations.specs.Packing.{pack_all}
use Rattle.configurations.proofs.PackLaws.{length-pack_all}
use Rattle.words.specs.Layout.{kept_room, fixed_words, slots, held_at, start_at, bytes_at, slot_at, count_at, step_at, configs_at}
use Rattle.words.specs.Words.{word, held, start_of, step_of, decision, kept_words, add_state}
use Rattle.words.proofs.WordLaws.{kept_same, Added, added}
use Rattle.cache.specs.Coherent.{Extends}
use Rattle.cache.proofs.FieldLaws.{Cell, start_cell, step-cell, cell-held, cell-fixed, cell-slot, cell-count, cell-configs}

-- ---- one word that records an outcome
module _ (c : List ℕ) {i : ℕ} (cell : Cell i) (w : ℕ) where
  pub put_other : (j : ℕ) → j ≢ i → word (set c i w) j ≡ word c j
  put_other j n = get_or-set_other c i j w 0 n

  pub put-held : held (set c i w) ≡ held c
  unfolding held
  put-held = put_other _ (λ e. cell-held cell (sym e))

  put-decision : (s : ℕ) → decision (set c i w) s ≡ decision c s
  unfolding decision
  put-decision s = put_other (slot_at s) (λ e. cell-slot cell s (sym e))

  pub put_count : (s : ℕ) → word (set c i w) (count_at s) ≡ word c (count_at s)
  put_count s = put_other (count_at s) (λ e. cell-count cell s (sym e))

  put-kept : (s : ℕ) → kept_words (set c i w) s ≡ kept_words c s
  put-kept s = kept_same c (set c i w) s (length-set c i w) (put_count s) (λ j h l. put_other j (λ e. away e h l (cell-configs cell s)))
    where
      away : {j : ℕ} → j ≡ i → configs_at s ≤ j → j < configs_at s + kept_room → (i < configs_at s) ⊎ (configs_at s + kept_room ≤ i) → ⊥
      away e h l (inl b) = omega arith
      away e h l (inr b) = omega arith

  -- where it said nothing, words only grow
  pub put-extends : (g : Grammar) → word c i ≡ 0 → Extends g c (set c i w)
  unfolding start_of step_of
  put-extends g free = record {
    as_long = length-set c i w;
    same-fixed = λ j h. put_other j (cell-fixed cell j h);
    more = omega (arith, put-held);
    same-decision = λ s h. put-decision s;
    same_kept = λ s h. put-kept s;
    same_start = λ b h n. stays (start_at b) n;
    same_step = λ s t h l n. stays (step_at s t) n;
  }
    where
      -- words that are not 0 stay
      stays : (j : ℕ) → word c j ≢ 0 → word (set c i w) j ≡ word c j
      stays j n = put_other j (λ e. n (ap (word c) e ∙ free))

-- ---- a state in the next slot
module _ (c : List ℕ) (a : ℕ) (ks : List Config) (room : held c < slots (length c)) (few : length ks ≤ max_kept) where
  pub new-added : Added c a ks (add_state c a ks)
  new-added = added c a ks room few

  -- words that record outcomes stay
  pub cell_stays : {i : ℕ} → Cell i → word (add_state c a ks) i ≡ word c i
  cell_stays {i} x = new-added.elsewhere i (cell-held x) (cell-slot x (held c)) (cell-count x (held c)) (go (cell-configs x (held c)))
    where
      go : (i < configs_at (held c)) ⊎ (configs_at (held c) + kept_room ≤ i) → (i < configs_at (held c))
          ⊎ (configs_at (held c) + length (pack_all ks) ≤ i)
      go (inl h) = inl h
      go (inr h) = inr (omega (arith, length-pack_all ks))

  fixed-stays : (i : ℕ) → (i < held_at) ⊎ ((bytes_at ≤ i) × (i < fixed_words)) → word (add_state c a ks) i ≡ word c i
  fixed-stays i (inl h) = new-added.elsewhere i (λ e. omega arith) (λ e. omega arith) (λ e. omega arith) (inl (omega arith))
  fixed-stays i (inr (h, l)) = new-added.elsewhere i (λ e. omega arith) (λ e. omega arith) (λ e. omega arith) (inl (omega arith))

  -- words of the slots before it
  pub slot-stays : (s i : ℕ) → s < held c → slot_at s ≤ i → i < configs_at s + kept_room → word (add_state c a ks) i ≡ word c i
  slot-stays s i h l m = new-added.elsewhere i (λ e. omega arith) (λ e. omega arith) (λ e. omega arith) (inl (omega arith))

  kept-stays : (s : ℕ) → s < held c → kept_words (add_state c a ks) s ≡ kept_words c s
  kept-stays s h =
      kept_same c (add_state c a ks) s new-added.as_long (slot-stays s (count_at s) h (omega arith) (omega arith))
      (λ i l m. slot-stays s i h (omega arith) m)

  pub new-extends : (g : Grammar) → Extends g c (add_state c a ks)
  unfolding decision start_of step_of
  new-extends g = record {
    as_long = new-added.as_long;
    same-fixed = fixed-stays;
    more = omega (arith, new-added.now-held);
    same-decision = λ s h. slot-stays s (slot_at s) h (omega arith) (omega arith);
    same_kept = kept-stays;
    same_start = λ b h n. cell_stays (start_cell b h refl);
    same_step = λ s t h l n. cell_stays (step-cell s t l refl);
  }
