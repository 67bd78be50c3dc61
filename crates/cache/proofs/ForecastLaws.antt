-- Predictions over any words, coherent or not: what is foretold is an alternative of the nonterminal, and the cache keeps its length.
use mathlib.Core.Path.{◌≡◌, refl, sym, ◌∙◌}
use mathlib.Core.Bool.{Bool, true, false, ◌&&◌, cond}
use mathlib.Core.List.{List, [], ◌∷◌}
use Prim.Native.Nat.{ℕ, ◌-◌, ◌≤◌}
use lib.Dec.{ltb, leb, ltb→lt, leb→le}
use lib.ListN.{length}
use Rattle.base.proofs.Booleans.{clash, and_T, true→T}
use Rattle.grammar.specs.Grammar.{Grammar, alternatives}
use Rattle.words.specs.Layout.{slots, full_word, state_word}
use Rattle.std.specs.Prelude.{Some, None}
use Rattle.cache.specs.Predictor.{Predicted, predicted}
use Rattle.cache.specs.Recording.{Learned, ask_start, ask_step}
use Rattle.cache.specs.Predict.{Meaning, chosen, undecided, at, meaning, meaning_of, predict_from, predict}
use Rattle.cache.proofs.LengthLaws.{length-ask_start, length-ask_step}
use Rattle.cache.proofs.FollowLaws.{meaning-is, follow-unsure, follow-sure, follow-over, follow-on}

-- a chosen alternative is one of n
meaning-named : (n k w : ℕ) {b : ℕ} → meaning n k w ≡ chosen b → (1 ≤ b) × (b ≤ n)
unfolding meaning
meaning-named n k w {b} e = go (ltb full_word w) (ltb (w - state_word 0) k) (ltb 0 w && leb w n) refl e
  where
    go : (x y z : Bool) → (ltb 0 w && leb w n) ≡ z → cond x (cond y (at (w - state_word 0)) undecided) (cond z (chosen w) undecided) ≡ chosen b
        → (1 ≤ b) × (b ≤ n)
    go true true z q e = clash (cc)
    go true false z q e = clash (cc)
    go false y true q e =
        let (l, m) = and_T (ltb 0 w) (leb w n) (true→T _ q) in
        let z : w ≡ b = cc in
        rw (← z) (ltb→lt 0 w l, leb→le w n m)
    go false y false q e = clash (cc)

module _ (g : Grammar) where
  -- what holds at the ends of a prediction, and of a step where it holds after it, holds of every prediction
  module _ (Holds : Learned → Predicted (List ℕ) → Type 0) (a : ℕ) where
    record Ways : Type 0 where
      pub unsure : (l : Learned) → Holds l (predicted None l.words)
      pub sure : (l : Learned) (b : ℕ) → meaning_of g a l ≡ chosen b → Holds l (predicted (Some b) l.words)
      pub on : (l : Learned) (s t : ℕ) (p : Predicted (List ℕ)) → Holds (ask_step g l.words a s t) p → Holds l p

    follow-ways : Ways → (ts : List ℕ) (l : Learned) → Holds l (predict_from g a ts l)
    follow-ways h [] l = go (meaning_of g a l) refl
      where
        go : (m : Meaning) → meaning_of g a l ≡ m → Holds l (predict_from g a [] l)
        go (chosen b) e = rw (follow-sure g [] a b l e) (h.sure l b e)
        go undecided e = rw (follow-unsure g [] a l e) (h.unsure l)
        go (at s) e = rw (follow-over g a s l e) (h.unsure l)
    follow-ways h (t ∷ ts) l = go (meaning_of g a l) refl (λ m. follow-ways h ts m)
      where
        go : (m : Meaning) → meaning_of g a l ≡ m → ((k : Learned) → Holds k (predict_from g a ts k)) → Holds l (predict_from g a (t ∷ ts) l)
        go (chosen b) e rec = rw (follow-sure g (t ∷ ts) a b l e) (h.sure l b e)
        go undecided e rec = rw (follow-unsure g (t ∷ ts) a l e) (h.unsure l)
        go (at s) e rec = rw (follow-on g t ts a s l e) (h.on l s t _ (rec (ask_step g l.words a s t)))

  -- A FORECAST NAMES one of the nonterminal's alternatives
  pub predict-named : (c : List ℕ) (a : ℕ) (ts : List ℕ) (b : ℕ) → (predict g c a ts).forecast ≡ Some b
      → (1 ≤ b) × (b ≤ length (alternatives g a))
  unfolding predict
  predict-named c a ts = follow-ways Named a ways ts (ask_start g c a)
    where
      Named : Learned → Predicted (List ℕ) → Type 0
      Named l p = (b : ℕ) → p.forecast ≡ Some b → (1 ≤ b) × (b ≤ length (alternatives g a))

      ways : Ways Named a
      ways =
          record {
            unsure = λ l b e. clash (cc);
            sure = λ l d m b e.
                let y : d ≡ b = cc in
                rw (← y) (meaning-named (length (alternatives g a)) (slots (length l.words)) l.said (sym (meaning-is g a l) ∙ m));
            on = λ l s t p h. h;
          }

  -- a prediction keeps the cache's length
  pub predict-length : (c : List ℕ) (a : ℕ) (ts : List ℕ) → length (predict g c a ts).state ≡ length c
  unfolding predict
  predict-length c a ts = follow-ways Long a ways ts (ask_start g c a) ∙ length-ask_start g c a
    where
      Long : Learned → Predicted (List ℕ) → Type 0
      Long l p = length p.state ≡ length l.words

      ways : Ways Long a
      ways = record { unsure = λ l. refl; sure = λ l b _. refl; on = λ l s t p h. h ∙ length-ask_step g l.words a s t }
