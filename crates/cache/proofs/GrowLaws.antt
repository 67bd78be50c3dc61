-- Coherent words stay coherent when they grow by one outcome or by one state.
use mathlib.Core.Path.{◌≡◌, refl, sym, ap, ◌∙◌, subst}
use mathlib.Core.Logic.{◌≢◌}
use mathlib.Core.List.{List}
use Prim.Native.Nat.{ℕ, suc, ◌≤◌, ◌<◌}
use native.Mathlib.Omega.{arith}
use native.Mathlib.Decide.{dec_lt}
use lib.ListN.{length}
use Rattle.grammar.specs.Grammar.{Grammar}
use Rattle.lookahead.specs.Outcomes.{Outcome, step_outcome}
use Rattle.lookahead.specs.Order.{Ascending}
use Rattle.configurations.specs.Packing.{pack_all}
use Rattle.lookahead.specs.Rules.{Each}
use Rattle.words.specs.Layout.{slots, count_at, step_at}
use Rattle.words.specs.Words.{word, held, start_of, step_of, decision, kept_words, kept_in}
use Rattle.cache.specs.Coherent.{Says, Storable, Slot, Used, Coherent, Extends}
use Rattle.cache.proofs.SuitLaws.{Suits}
use Rattle.cache.proofs.ExtendLaws.{kept-extends, begun-extends}
use Rattle.cache.proofs.FieldLaws.{Field, of-start, of-step, says-given, kept-packable, used-extends}

-- how words grew: at most one state more, and what every new word says
pub record Growth (g : Grammar) (bytes c c' : List ℕ) : Type 0 where
  pub extends : Extends g c c'
  pub within : held c' ≤ slots (length c')
  pub one : held c' ≤ suc (held c)
  pub counts : (s : ℕ) → s < held c → word c' (count_at s) ≡ word c (count_at s)
  pub new-slot : held c < held c' → Slot g c' (held c)
  pub new-single : held c < held c' → (s : ℕ) → s < held c → decision c s ≡ decision c' (held c) → kept_words c s ≡ kept_words c' (held c)
      → ⊥
  pub new-steps : held c < held c' → (t : ℕ) → t ≤ g.kinds → step_of c' (held c) t ≡ 0
  pub elsewhere : (i : ℕ) → ¬ Used g bytes c' i → word c' i ≡ word c i
  pub said : {i a : ℕ} {o : Outcome} → Field g c i a o → word c' i ≢ 0 → Says c' a (word c' i) o

module _ (g : Grammar) (bytes : List ℕ) (suits : Suits g bytes) {c c' : List ℕ} (k : Coherent g bytes c) (w : Growth g bytes c c') where
  abbrev x : Extends g c c'
  x = w.extends

  old-slot : (s : ℕ) → s < held c → Slot g c' s
  old-slot s h =
      let o = k.slot s h in
      let d : decision c' s ≡ decision c s = x.same-decision s h in
      let e : kept_in c' s ≡ kept_in c s = kept-extends g x s h in
      record {
        decides = rw d o.decides;
        counted = w.counts s h ∙ o.counted ∙ ap length (sym e);
        some = rw e o.some;
        few = rw e o.few;
        packed = x.same_kept s h ∙ o.packed ∙ ap pack_all (sym e);
        fitting = subst (Each Storable) (sym e) o.fitting;
        ascending = subst Ascending (sym e) o.ascending;
      }

  slot : (s : ℕ) → s < held c' → Dec (s < held c) → Slot g c' s
  slot s h (yes l) = old-slot s l
  slot s h (no l) = let q : held c ≡ s = omega (arith, w.one) in subst (Slot g c') q (w.new-slot (omega arith))

  single : (s s' : ℕ) → s < held c' → s' < held c' → decision c' s ≡ decision c' s' → kept_words c' s ≡ kept_words c' s'
      → Dec (s < held c) → Dec (s' < held c) → s ≡ s'
  single s s' h h' d e (yes l) (yes l') =
      k.single s s' l l' (sym (x.same-decision s l) ∙ d ∙ x.same-decision s' l') (sym (x.same_kept s l) ∙ e ∙ x.same_kept s' l')
  single s s' h h' d e (yes l) (no l') =
      let q : s' ≡ held c = omega (arith, w.one) in
      absurd (w.new-single (omega arith) s l (sym (x.same-decision s l) ∙ d ∙ ap (decision c') q)
      (sym (x.same_kept s l) ∙ e ∙ ap (kept_words c') q))
  single s s' h h' d e (no l) (yes l') =
      let q : s ≡ held c = omega (arith, w.one) in
      absurd (w.new-single (omega arith) s' l' (sym (x.same-decision s' l') ∙ sym d ∙ ap (decision c') q)
      (sym (x.same_kept s' l') ∙ sym e ∙ ap (kept_words c') q))
  single s s' h h' d e (no l) (no l') = omega (arith, w.one)

  stepped : (s t : ℕ) → s < held c' → t ≤ g.kinds → step_of c' s t ≢ 0 → Dec (s < held c)
      → Says c' (decision c' s) (step_of c' s t) (step_outcome g t (kept_in c' s))
  unfolding step_of
  stepped s t h l n (yes b) = rw (x.same-decision s b, kept-extends g x s b) (w.said (of-step s t b l refl refl refl) n)
  stepped s t h l n (no b) = let q : held c ≡ s = omega (arith, w.one) in
      absurd (n (ap (λ (y : ℕ). word c' (step_at y t)) (sym q) ∙ w.new-steps (omega arith) t l))

  pub grown : Coherent g bytes c'
  unfolding start_of
  grown = record {
    long = omega (arith, k.long, x.as_long);
    begun-for = begun-extends g bytes suits.packed x k.begun-for;
    held_fits = w.within;
    slot = λ s h. slot s h (dec_lt s (held c));
    unused = λ i n. w.elsewhere i n ∙ k.unused i (λ u. n (used-extends g x u));
    single = λ s s' h h' d e. single s s' h h' d e (dec_lt s (held c)) (dec_lt s' (held c));
    started = λ a d n. (says-given (suits.starts a)).1 (w.said (of-start d refl refl) n);
    stepped = λ s t h l n. (says-given (suits.steps (kept_in c' s) (kept-packable c' s) t)).1 (stepped s t h l n (dec_lt s (held c)));
  }
