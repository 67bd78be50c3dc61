-- A state that no slot holds takes the next one.
use mathlib.Core.Path.{◌≡◌, refl, sym, ap, ◌∙◌, subst}
use mathlib.Core.Logic.{◌⊎◌, inl, inr, ◌≢◌}
use mathlib.Core.List.{List}
use Prim.Native.Nat.{ℕ, ◌+◌, ◌-◌, ◌≤◌, ◌<◌}
use native.Mathlib.Omega.{arith}
use native.Mathlib.Decide.{dec_lt}
use lib.ListN.{length}
use Rattle.grammar.specs.Limits.{max_kinds}
use Rattle.grammar.specs.Grammar.{Grammar}
use Rattle.lookahead.specs.Configs.{Config}
use Rattle.lookahead.specs.Order.{Ascending}
use Rattle.lookahead.specs.Outcomes.{Outcome, state}
use Rattle.configurations.specs.Packing.{pack_all, unpack_all}
use Rattle.lookahead.specs.Rules.{Each}
use Rattle.configurations.proofs.PackLaws.{unpack-all}
use Rattle.words.specs.Layout.{slots, count_at, step_at, configs_at, state_word}
use Rattle.words.specs.Words.{word, held, step_of, decision, kept_words, kept_in, add_state}
use Rattle.lookahead.specs.Configs.{Decides}
use Rattle.cache.specs.Coherent.{Says, Storable, Slot, Used, size, its-decision, count, kept, Coherent, Extends}
use Rattle.words.proofs.WordLaws.{Added}
use Rattle.cache.proofs.FitLaws.{Keepable, fits-packable}
use Rattle.cache.proofs.SuitLaws.{Suits}
use Rattle.cache.proofs.ExtendLaws.{says-extends}
use Rattle.cache.proofs.FieldLaws.{Cell, step-cell, Field, field-cell, field-says}
use Rattle.cache.proofs.FieldLaws.{unheld-step}
use Rattle.cache.proofs.StayLaws.{new-added, cell_stays, slot-stays, new-extends}
use Rattle.cache.proofs.GrowLaws.{Growth, grown}

-- what the words are with a new state of decision a: words that record outcomes stay as they were
pub record Fresh (g : Grammar) (bytes c : List ℕ) (a : ℕ) (ks : List Config) : Type 0 where
  pub coherent : Coherent g bytes (add_state c a ks)
  pub extends : Extends g c (add_state c a ks)
  pub says : Says (add_state c a ks) a (state_word (held c)) (state ks)
  pub cells : {i : ℕ} → Cell i → word (add_state c a ks) i ≡ word c i

module _ (g : Grammar) (bytes : List ℕ) (suits : Suits g bytes) {c : List ℕ} (k : Coherent g bytes c) (a : ℕ) (ks : List Config) (decides : Decides g a)
    (keep : Keepable ks) (room : held c < slots (length c)) (fresh : (s : ℕ) → s < held c → decision c s ≡ a → kept_words c s ≡ pack_all ks → ⊥)
  where
    after : List ℕ
    after = add_state c a ks

    new : Added c a ks after
    unfolding after
    new = new-added c a ks room keep.few

    -- ---- what stays
    cells : {i : ℕ} → Cell i → word after i ≡ word c i
    unfolding after
    cells x = cell_stays c a ks room keep.few x

    grows : Extends g c after
    unfolding after
    grows = new-extends c a ks room keep.few g

    counts : (s : ℕ) → s < held c → word after (count_at s) ≡ word c (count_at s)
    unfolding after
    counts s h = slot-stays c a ks room keep.few s (count_at s) h (omega arith) (omega arith)

    -- ---- what is new
    its-kept : kept_in after (held c) ≡ ks
    unfolding kept_in
    its-kept = ap unpack_all new.its-words ∙ unpack-all ks (λ x m. fits-packable x (keep.fitting x m))

    new-slot : Slot g after (held c)
    new-slot = record {
      decides = rw new.its-decision decides;
      counted = new.its-count ∙ ap length (sym its-kept);
      some = rw its-kept keep.some;
      few = rw its-kept keep.few;
      packed = new.its-words ∙ ap pack_all (sym its-kept);
      fitting = subst (Each Storable) (sym its-kept) keep.fitting;
      ascending = subst Ascending (sym its-kept) keep.ascending;
    }

    new-steps : (t : ℕ) → t ≤ g.kinds → step_of after (held c) t ≡ 0
    unfolding step_of
    new-steps t l =
        let m : t ≤ max_kinds = omega (arith, suits.kinds) in
        cells (step-cell (held c) t m refl) ∙ k.unused (step_at (held c) t) (unheld-step g suits (held c) t (omega arith) m refl)

    elsewhere : (i : ℕ) → ¬ Used g bytes after i → word after i ≡ word c i
    elsewhere i n =
        let h : held c < held after = omega (arith, new.now-held) in
        new.elsewhere i (λ e. n (size (omega arith) (omega arith))) (λ e. n (its-decision (held c) h e)) (λ e. n (count (held c) h e))
        (go h (dec_lt i (configs_at (held c))) (dec_lt i (configs_at (held c) + length (pack_all ks))))
      where
        go : held c < held after → Dec (i < configs_at (held c)) → Dec (i < configs_at (held c) + length (pack_all ks)) → (i < configs_at (held c))
            ⊎ (configs_at (held c) + length (pack_all ks) ≤ i)
        go h (yes l) m = inl l
        go h (no l) (no m) = inr (omega arith)
        go h (no l) (yes m) = absurd (n (kept (held c) (i - configs_at (held c)) h (omega (arith, ap length new.its-words)) (omega arith)))

    new-said : {i b : ℕ} {o : Outcome} → Field g c i b o → word after i ≢ 0 → Says after b (word after i) o
    new-said {i} {b} {o} f n =
        let e = cells (field-cell g suits f) in
        rw e (says-extends g grows b (word c i) o (field-says g suits k f (λ z. n (e ∙ z))))

    growth : Growth g bytes c after
    growth = record {
      extends = grows;
      within = omega (arith, new.now-held, room, ap slots new.as_long);
      one = omega (arith, new.now-held);
      counts = counts;
      new-slot = λ h. new-slot;
      new-single = λ h s l d e. fresh s l (d ∙ new.its-decision) (e ∙ new.its-words);
      new-steps = λ h. new-steps;
      elsewhere = elsewhere;
      said = new-said;
    }

    pub new-state : Fresh g bytes c a ks
    unfolding after
    new-state = record {
      coherent = grown g bytes suits k growth;
      extends = grows;
      says = (held c, refl, omega (arith, new.now-held), new.its-decision, new.its-words);
      cells = λ x. cells x;
    }
