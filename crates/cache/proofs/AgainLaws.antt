-- Asked again, over any coherent words that grew from what the first asking left, the answer is the same and nothing is recorded.
use mathlib.Core.Path.{◌≡◌, refl, sym, ap, ◌∙◌}
use mathlib.Core.Logic.{◌≢◌}
use mathlib.Core.Bool.{Bool, true, false}
use mathlib.Core.Option.{Option, none, some}
use mathlib.Core.List.{List}
use Prim.Native.Nat.{ℕ, ◌≤◌, ◌<◌}
use native.Mathlib.Omega.{arith}
use native.Mathlib.Decide.{ℕ_discrete}
use lib.Dec.{eqb, ltb}
use lib.ListN.{length, set}
use borrow.Author.Tests.{eqb-true, eqb-false, ltb-true, ltb-false, le-ltb, eq-eqb, ne_eqb}
use Rattle.grammar.specs.Grammar.{Grammar}
use Rattle.lookahead.specs.Configs.{Config}
use Rattle.lookahead.specs.Outcomes.{Outcome, full, alternative, state, start_outcome, step_outcome}
use Rattle.configurations.specs.Packing.{pack_all}
use Rattle.words.specs.Layout.{slots, step_at, full_word, state_word}
use Rattle.words.specs.Words.{word, held, start_of, step_of, decision, kept_words, kept_in, set_start, set_step}
use Rattle.cache.specs.Recording.{learned, find, record_new, record_outcome, ask_start, ask_step}
use Rattle.lookahead.specs.Configs.{Decides}
use Rattle.cache.specs.Coherent.{Coherent, Extends}
use Rattle.cache.proofs.SuitLaws.{Suits}
use Rattle.cache.proofs.ExtendLaws.{extends-trans, kept-extends}
use Rattle.cache.proofs.FieldLaws.{Field, of-start, of-step, field-cell, field-extends, field-says, recorded-stays}
use Rattle.cache.proofs.FindLaws.{find_none, none-find}
use Rattle.cache.proofs.PutLaws.{put-here, put-grows}
use Rattle.cache.proofs.RecordLaws.{put_at, by_room, by_find, by_word, ask, field-recordable, field-new, ask-step}

-- a word that records something is the answer
known : (c : List ℕ) (i a : ℕ) (o : Outcome) → word c i ≢ 0 → ask c i a o ≡ learned (word c i) c
known c i a o n = ap (by_word c i a o) (ne_eqb (word c i) 0 n)

module _ (g : Grammar) (bytes : List ℕ) (suits : Suits g bytes) {c'' : List ℕ} (k'' : Coherent g bytes c'') where
  -- a word w that was recorded, and is not 0
  again-put : {c : List ℕ} → Coherent g bytes c → {i a : ℕ} {o : Outcome} → Field g c i a o → word c i ≡ 0 → (w : ℕ) → w ≢ 0
      → Extends g (set c i w) c'' → ask c'' i a o ≡ learned w c''
  again-put {c} k {i} {a} {o} f z w n x =
      let h = put-here g bytes suits k f w in
      let e = recorded-stays g suits x (field-extends g (put-grows g bytes suits k f w z) f) (λ y. n (sym h ∙ y)) ∙ h in
      known c'' i a o (λ y. n (sym e ∙ y)) ∙ ap (λ (y : ℕ). learned y c'') e

  module _ {c : List ℕ} (k : Coherent g bytes c) {i a : ℕ} where
    -- a state for which no slot was free finds none again
    module _ {ks : List Config} (f : Field g c i a (state ks)) (free : word c i ≡ 0) (e : find c a ks ≡ none) (no_room : slots (length c) ≤ held c)
        (x : Extends g c c'') where
      as_many : held c'' ≡ held c
      as_many = omega (arith, x.more, k.held_fits, k''.held_fits, ap slots x.as_long)

      not-held : (s : ℕ) → s < held c'' → decision c'' s ≡ a → kept_words c'' s ≡ pack_all ks → ⊥
      not-held s h d q =
          let h' : s < held c = omega (arith, as_many) in
          find_none c a ks k.held_fits e s (h', sym (x.same-decision s h') ∙ d, sym (x.same_kept s h') ∙ q)

      still-free : word c'' i ≡ 0
      still-free = go (ℕ_discrete (word c'' i) 0)
        where
          go : Dec (word c'' i ≡ 0) → word c'' i ≡ 0
          go (yes z) = z
          go (no n) = let y = field-says g suits k'' (field-extends g x f) n in absurd (not-held y.0 y.2 y.3 y.4)

      again-unheld : ask c'' i a (state ks) ≡ learned full_word c''
      unfolding record_outcome record_new
      again-unheld =
          ap (by_word c'' i a (state ks)) (eq-eqb (word c'' i) 0 still-free)
          ∙ ap (by_find c'' i a ks) (none-find c'' a ks k''.held_fits (λ s h. not-held s h.0 h.1 h.2))
          ∙ ap (by_room c'' i a ks) (le-ltb (held c'') (slots (length c'')) (omega (arith, as_many, ap slots x.as_long)))

    -- a state that no slot held
    again-new : {ks : List Config} → Field g c i a (state ks) → word c i ≡ 0 → find c a ks ≡ none
        → Extends g (record_new (put_at i) c a ks).words c''
        → ask c'' i a (state ks) ≡ learned (record_new (put_at i) c a ks).said c''
    unfolding record_new
    again-new {ks} f z e x = go (ltb (held c) (slots (length c))) refl x
      where
        go : (b : Bool) → ltb (held c) (slots (length c)) ≡ b → Extends g (by_room c i a ks b).words c'' → ask c'' i a (state ks)
            ≡ learned (by_room c i a ks b).said c''
        go true q x =
            let n = field-new g bytes suits k f e (ltb-true (held c) (slots (length c)) q) in
            again-put n.coherent (field-extends g n.extends f) (n.cells (field-cell g suits f) ∙ z) (state_word (held c)) (λ r. omega arith) x
        go false q x = again-unheld f z e (ltb-false (held c) (slots (length c)) q) x

    again-record : (o : Outcome) → Field g c i a o → word c i ≡ 0 → Extends g (record_outcome (put_at i) c a o).words c''
        → ask c'' i a o ≡ learned (record_outcome (put_at i) c a o).said c''
    unfolding record_outcome
    again-record full f z x = again-put k f z full_word (λ r. omega arith) x
    again-record (alternative b) f z x = let y = field-recordable g bytes suits k f in again-put k f z b (λ r. omega (arith, y.0)) x
    again-record (state ks) f z x = go (find c a ks) refl x
      where
        go : (o : Option ℕ) → find c a ks ≡ o → Extends g (by_find c i a ks o).words c'' → ask c'' i a (state ks)
            ≡ learned (by_find c i a ks o).said c''
        go none e x = again-new f z e x
        go (some s) e x = again-put k f z (state_word s) (λ r. omega arith) x

    again : (o : Outcome) → Field g c i a o → Extends g (ask c i a o).words c'' → ask c'' i a o ≡ learned (ask c i a o).said c''
    again o f x = go (eqb (word c i) 0) refl x
      where
        go : (b : Bool) → eqb (word c i) 0 ≡ b → Extends g (by_word c i a o b).words c'' → ask c'' i a o ≡ learned (by_word c i a o b).said c''
        go true e x = again-record o f (eqb-true (word c i) 0 e) x
        go false e x =
            let n = eqb-false (word c i) 0 e in
            let q = recorded-stays g suits x f n in
            known c'' i a o (λ y. n (sym q ∙ y)) ∙ ap (λ (y : ℕ). learned y c'') q

-- ---- starts and steps
module _ (g : Grammar) (bytes : List ℕ) (suits : Suits g bytes) where
  pub again-start : (c c'' : List ℕ) (a : ℕ) → Coherent g bytes c → Decides g a → Coherent g bytes c'' → Extends g (ask_start g c a).words c''
      → ask_start g c'' a ≡ learned (ask_start g c a).said c''
  unfolding ask_start start_of set_start
  again-start c c'' a k d k'' x = again g bytes suits k'' k (start_outcome g a) (of-start d refl refl) x

  pub again-step : (c c'' : List ℕ) (a s t : ℕ) → Coherent g bytes c → s < held c → t ≤ g.kinds → decision c s ≡ a → Coherent g bytes c''
      → Extends g (ask_step g c a s t).words c'' → ask_step g c'' a s t ≡ learned (ask_step g c a s t).said c''
  unfolding ask_step step_of set_step
  again-step c c'' a s t k h l d k'' x =
      let y = extends-trans g c (ask_step g c a s t).words c'' (ask-step g bytes suits c a s t k h l d).extends x in
      ap (λ (ks : List Config). ask c'' (step_at s t) a (step_outcome g t ks)) (kept-extends g y s h)
      ∙ again g bytes suits k'' k (step_outcome g t (kept_in c s)) (of-step s t h l d refl refl) x
