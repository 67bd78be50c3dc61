-- Words that no documented field uses: where they lie, word by word and range by range.
use mathlib.Core.Path.{◌≡◌, refl, subst, ap}
use mathlib.Core.List.{List}
use Prim.Native.Nat.{ℕ, suc, ◌+◌, ◌-◌, ◌/◌, ◌≤◌, ◌<◌}
use native.Mathlib.Omega.{arith}
use native.Mathlib.Decide.{dec_lt}
use lib.ListN.{length, get_or-eq_default}
use Rattle.grammar.specs.Limits.{max_nonterminals}
use Rattle.grammar.specs.Grammar.{Grammar}
use Rattle.lookahead.specs.Configs.{Decides}
use Rattle.words.specs.Layout.{fixed_words, slot_head, slot_words, length_at, held_at, starts_at, start_at, bytes_at, steps_at, slot_at, step_at, configs_at}
use Rattle.words.specs.Begin.{pack_bytes}
use Rattle.words.specs.Words.{word, held, start_of, kept_words}
use Rattle.words.proofs.WordLaws.{kept-room}
use Rattle.cache.specs.Coherent.{Used, size, start, byte, its-decision, count, step, kept}
use Rattle.cache.proofs.SuitLaws.{Suits}
use Rattle.auditing.proofs.ZeroLaws.{Zeros}

-- the ranges without a use are 0
pub record Blank (g : Grammar) (bytes c : List ℕ) : Type 0 where
  pub front : Zeros c 0 length_at
  pub between : Zeros c (suc held_at) starts_at
  pub starts : (a : ℕ) → a < max_nonterminals → ¬ Decides g a → start_of c a ≡ 0
  pub bytes-end : Zeros c (bytes_at + length (pack_bytes bytes)) fixed_words
  pub steps : (s : ℕ) → s < held c → Zeros c (suc (step_at s g.kinds)) (configs_at s)
  pub configs : (s : ℕ) → s < held c → Zeros c (configs_at s + length (kept_words c s)) (slot_at (suc s))
  pub behind : Zeros c (slot_at (held c)) (length c)

module _ (g : Grammar) (bytes c : List ℕ) where
  -- ---- if the ranges are 0, every word without a use is
  module _ (z : Blank g bytes c) where
    in-slot : (s o : ℕ) → s < held c → o < slot_words → ¬ Used g bytes c (slot_at s + o) → word c (slot_at s + o) ≡ 0
    in-slot s o h l n =
        go (dec_lt o 1) (dec_lt o steps_at) (dec_lt o (suc (steps_at + g.kinds))) (dec_lt o slot_head) (dec_lt o (slot_head + length (kept_words c s)))
      where
        go : Dec (o < 1) → Dec (o < steps_at) → Dec (o < suc (steps_at + g.kinds)) → Dec (o < slot_head) → Dec (o < slot_head + length (kept_words c s))
            → word c (slot_at s + o) ≡ 0
        go (yes a) _ _ _ _ = absurd (n (its-decision s h (omega arith)))
        go (no a) (yes b) _ _ _ = absurd (n (count s h (omega arith)))
        go (no a) (no b) (yes d) _ _ = absurd (n (step s (o - steps_at) h (omega arith) (omega arith)))
        go (no a) (no b) (no d) (yes e) _ = z.steps s h (slot_at s + o) (omega arith) (omega arith)
        go (no a) (no b) (no d) (no e) (yes f) = absurd (n (kept s (o - slot_head) h (omega arith) (omega arith)))
        go (no a) (no b) (no d) (no e) (no f) = z.configs s h (slot_at s + o) (omega arith) (omega arith)

    in-slots : (i : ℕ) → fixed_words ≤ i → ¬ Used g bytes c i → word c i ≡ 0
    in-slots i h n = go (dec_lt ((i - fixed_words) / slot_words) (held c)) (dec_lt i (length c))
      where
        go : Dec ((i - fixed_words) / slot_words < held c) → Dec (i < length c) → word c i ≡ 0
        go (yes a) b =
            let s = (i - fixed_words) / slot_words in
            let e : slot_at s + (i - slot_at s) ≡ i = omega arith in
            subst (λ (k : ℕ). word c k ≡ 0) e (in-slot s (i - slot_at s) a (omega arith) (λ u. n (subst (Used g bytes c) e u)))
        go (no a) (yes b) = z.behind i (omega arith) b
        go (no a) (no b) = get_or-eq_default c 0 {n = i} (omega arith)

    in-starts : (a : ℕ) → a < max_nonterminals → ¬ Used g bytes c (start_at a) → word c (start_at a) ≡ 0
    unfolding start_of
    in-starts a l n = z.starts a l (λ d. n (start a d refl))

    pub unused-zero : (i : ℕ) → ¬ Used g bytes c i → word c i ≡ 0
    unused-zero i n =
        go (dec_lt i length_at) (dec_lt i (suc held_at)) (dec_lt i starts_at) (dec_lt i bytes_at) (dec_lt i (bytes_at + length (pack_bytes bytes)))
        (dec_lt i fixed_words)
      where
        go : Dec (i < length_at) → Dec (i < suc held_at) → Dec (i < starts_at) → Dec (i < bytes_at) → Dec (i < bytes_at + length (pack_bytes bytes))
            → Dec (i < fixed_words) → word c i ≡ 0
        go (yes a) _ _ _ _ _ = z.front i (omega arith) a
        go (no a) (yes b) _ _ _ _ = absurd (n (size (omega arith) (omega arith)))
        go (no a) (no b) (yes d) _ _ _ = z.between i (omega arith) d
        go (no a) (no b) (no d) (yes e) _ _ =
            let q : start_at (i - starts_at) ≡ i = omega arith in
            subst (λ (k : ℕ). word c k ≡ 0) q (in-starts (i - starts_at) (omega arith) (λ u. n (subst (Used g bytes c) q u)))
        go (no a) (no b) (no d) (no e) (yes f) _ = absurd (n (byte (i - bytes_at) (omega arith) (omega arith)))
        go (no a) (no b) (no d) (no e) (no f) (yes k) = z.bytes-end i (omega arith) k
        go (no a) (no b) (no d) (no e) (no f) (no k) = in-slots i (omega arith) n

  -- ---- the ranges have no use
  module _ (suits : Suits g bytes) where
    -- a word before the slots that is none of the sizes, no decision's start and none of the bytes
    free-fixed : (i : ℕ) → i < fixed_words → (i ≤ held_at → i < length_at) → ((a : ℕ) → i ≡ start_at a → ¬ Decides g a)
        → (bytes_at ≤ i → bytes_at + length (pack_bytes bytes) ≤ i) → ¬ Used g bytes c i
    free-fixed i h a b d (size l m) = let x = a m in omega arith
    free-fixed i h a b d (start k y e) = b k e y
    free-fixed i h a b d (byte j l e) = let x = d (omega arith) in omega arith
    free-fixed i h a b d (its-decision s l e) = omega arith
    free-fixed i h a b d (count s l e) = omega arith
    free-fixed i h a b d (step s t l m e) = omega arith
    free-fixed i h a b d (kept s j l m e) = omega arith

    -- word o of slot s that is behind the steps and none of the configurations, if the slot is held
    free-slot : (s o : ℕ) → o < slot_words → (s < held c → steps_at + g.kinds < o)
        → (s < held c → slot_head ≤ o → slot_head + length (kept_words c s) ≤ o) → ¬ Used g bytes c (slot_at s + o)
    free-slot s o h a b (size l m) = omega arith
    free-slot s o h a b (start k y e) = let x = suits.decisions k y in omega arith
    free-slot s o h a b (byte j l e) = omega (arith, suits.packed)
    free-slot s o h a b (its-decision s' l e) = let q : s ≡ s' = omega arith in let x = a (omega arith) in omega arith
    free-slot s o h a b (count s' l e) = let q : s ≡ s' = omega arith in let x = a (omega arith) in omega arith
    free-slot s o h a b (step s' t l m e) =
        let q : s ≡ s' = omega (arith, suits.kinds) in
        let x = a (omega arith) in
        omega arith
    free-slot s o h a b (kept s' j l m e) =
        let q : s ≡ s' = omega (arith, kept-room c s') in
        let x = b (omega arith) (omega arith) in
        omega (arith, ap (λ (r : ℕ). length (kept_words c r)) q)

    -- so they are 0 if every word without a use is
    module _ (zero : (i : ℕ) → ¬ Used g bytes c i → word c i ≡ 0) where
      slot-zero : (s i : ℕ) → slot_at s ≤ i → i < slot_at (suc s) → (s < held c → step_at s g.kinds < i)
          → (s < held c → configs_at s ≤ i → configs_at s + length (kept_words c s) ≤ i) → word c i ≡ 0
      slot-zero s i l m a b =
          let e : slot_at s + (i - slot_at s) ≡ i = omega arith in
          let n = free-slot s (i - slot_at s) (omega arith) (λ h. let x = a h in omega arith) (λ h k. let x = b h (omega arith) in omega arith) in
          zero i (subst (λ (k : ℕ). ¬ Used g bytes c k) e n)

      start-zero : (a : ℕ) → a < max_nonterminals → ¬ Decides g a → start_of c a ≡ 0
      unfolding start_of
      start-zero a l n =
          zero (start_at a) (free-fixed (start_at a) (omega arith) (λ h. absurd (omega arith))
          (λ k e d. let q : k ≡ a = omega arith in n (subst (Decides g) q d)) (λ h. absurd (omega arith)))

      fixed_zero : (i : ℕ) → i < fixed_words → (i ≤ held_at → i < length_at) → (starts_at ≤ i → bytes_at + length (pack_bytes bytes) ≤ i) → word c i ≡ 0
      fixed_zero i h a b =
          zero i (free-fixed i h a (λ k e d. let x = suits.decisions k d in let y = b (omega arith) in omega arith) (λ l. b (omega arith)))

      pub zero-blank : Blank g bytes c
      zero-blank = record {
        front = λ i _ l. fixed_zero i (omega arith) (λ _. l) (λ h. absurd (omega arith));
        between = λ i h l. fixed_zero i (omega arith) (λ m. absurd (omega arith)) (λ m. absurd (omega arith));
        starts = start-zero;
        bytes-end = λ i h l. fixed_zero i l (λ m. absurd (omega arith)) (λ _. h);
        steps = λ s _ i h l. slot-zero s i (omega arith) (omega arith) (λ _. omega arith) (λ _ m. absurd (omega arith));
        configs = λ s _ i h l. slot-zero s i (omega arith) l (λ _. omega (arith, suits.kinds)) (λ _ _. h);
        behind = λ i h l.
            let s = (i - fixed_words) / slot_words in
            slot-zero s i (omega arith) (omega arith) (λ m. absurd (omega arith)) (λ m _. absurd (omega arith));
      }
