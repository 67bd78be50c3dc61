-- An outcome that is recorded: one word more.
use mathlib.Core.Path.{◌≡◌, ap, ◌∙◌, subst}
use mathlib.Core.Logic.{◌≢◌}
use mathlib.Core.List.{List}
use Prim.Native.Nat.{ℕ, ◌<◌}
use native.Mathlib.Omega.{arith}
use native.Mathlib.Decide.{ℕ_discrete}
use lib.ListN.{length, set, length-set}
use lib.Seq.{get_or-set_same}
use Rattle.grammar.specs.Grammar.{Grammar}
use Rattle.lookahead.specs.Outcomes.{Outcome}
use Rattle.words.specs.Layout.{slots}
use Rattle.words.specs.Words.{word}
use Rattle.cache.specs.Coherent.{Says, Coherent, Extends}
use Rattle.words.proofs.WordLaws.{slot-within}
use Rattle.cache.proofs.SuitLaws.{Suits}
use Rattle.cache.proofs.ExtendLaws.{says-extends}
use Rattle.cache.proofs.FieldLaws.{Cell, Field, of-start, of-step, field-cell}
use Rattle.cache.proofs.FieldLaws.{field-extends, field-says, field-used}
use Rattle.cache.proofs.StayLaws.{put_other, put-held, put_count, put-extends}
use Rattle.cache.proofs.GrowLaws.{Growth, grown}

-- one word records one outcome
field-one : (g : Grammar) {bytes : List ℕ} → Suits g bytes → {c : List ℕ} {i a b : ℕ} {o o' : Outcome} → Field g c i a o → Field g c i b o'
    → (a ≡ b) × (o ≡ o')
field-one g u {a = a} {b = b} (of-start d e q) (of-start d' e' q') = let z : a ≡ b = omega arith in (z, cc)
field-one g u (of-start d e q) (of-step s t h l y e' q') = let b = u.decisions _ d in absurd (omega arith)
field-one g u (of-step s t h l y e q) (of-start d e' q') = let b = u.decisions _ d in absurd (omega arith)
field-one g u {c} (of-step s t h l y e q) (of-step s' t' h' l' y' e' q') =
    let z : s ≡ s' = omega (arith, u.kinds) in
    let z' : t ≡ t' = omega (arith, u.kinds) in
    (cc, cc)

-- it lies within the words
field-within : (g : Grammar) {bytes : List ℕ} → Suits g bytes → {c : List ℕ} → Coherent g bytes c → {i a : ℕ} {o : Outcome} → Field g c i a o
    → i < length c
field-within g u {c} k (of-start d e q) = omega (arith, u.decisions _ d, k.long)
field-within g u {c} k (of-step s t h l y e q) = omega (arith, u.kinds, slot-within (length c) s (omega (arith, k.held_fits)))

module _ (g : Grammar) (bytes : List ℕ) (suits : Suits g bytes) {c : List ℕ} (k : Coherent g bytes c) {i a : ℕ} {o : Outcome} (f : Field g c i a o)
    (w : ℕ) where
  abbrev after : List ℕ
  after = set c i w

  cell : Cell i
  cell = field-cell g suits f

  pub put-here : word after i ≡ w
  put-here = get_or-set_same c i w 0 (field-within g suits k f)

  module _ (free : word c i ≡ 0) where
    pub put-grows : Extends g c after
    put-grows = put-extends c cell w g free

    module _ (says : Says c a w o) where
      put-said : {j b : ℕ} {o' : Outcome} → Field g c j b o' → word after j ≢ 0 → Says after b (word after j) o'
      put-said {j} {b} {o'} f' n = go (ℕ_discrete j i)
        where
          go : Dec (j ≡ i) → Says after b (word after j) o'
          go (no m) = rw (put_other c cell w j m) (says-extends g put-grows b (word c j) o' (field-says g suits k f' (λ z. n (put_other c cell w j m ∙ z))))
          go (yes e) =
              let q = field-one g suits f (subst (λ (y : ℕ). Field g c y b o') e f') in
              let p : a ≡ b = q.0 in
              let r : o ≡ o' = q.1 in
              let here : word after j ≡ w = ap (word after) e ∙ put-here in
              rw (here, ← p, ← r) (says-extends g put-grows a w o says)

      growth : Growth g bytes c after
      growth = record {
        extends = put-grows;
        within = omega (arith, put-held c cell w, k.held_fits, ap slots (length-set c i w));
        one = omega (arith, put-held c cell w);
        counts = λ s h. put_count c cell w s;
        new-slot = λ h. absurd (omega (arith, put-held c cell w));
        new-single = λ h. absurd (omega (arith, put-held c cell w));
        new-steps = λ h. absurd (omega (arith, put-held c cell w));
        elsewhere = λ j n. put_other c cell w j (λ e. n (rw e (field-used g (field-extends g put-grows f))));
        said = put-said;
      }

      -- a word that was free says the outcome
      pub put-coherent : Coherent g bytes after
      put-coherent = grown g bytes suits k growth
