-- Recorded outcomes as the code follows them, turn by turn, and the ways out; and what a word says that tells no state.
use mathlib.Core.Path.{◌≡◌, sym, ap, ◌∙◌}
use mathlib.Core.Option.{some}
use mathlib.Core.List.{List, []}
use mathlib.Core.Logic.{◌⊎◌}
use Prim.Native.Nat.{ℕ, ◌+◌, ◌≤◌, ◌<◌}
use native.Mathlib.Omega.{arith}
use lib.ListN.{length, get_elem?, drop}
use Rattle.grammar.specs.Grammar.{Grammar, alternatives}
use Rattle.grammar.specs.inside.Tables.{grammar_in}
use Rattle.derivation.specs.Runs.{marked}
use Rattle.lookahead.proofs.Bounds.{compile-bounded}
use Rattle.words.specs.Layout.{slots, full_word, state_word}
use Rattle.words.specs.Words.{start_of, step_of}
use Rattle.std.specs.Prelude.{Some, None}
use Rattle.cache.specs.inside.Calls.{Predictable}
use Rattle.cache.specs.inside.Following.{Followable, Says, Recorded}
use Rattle.cache.specs.Predictor.{Forecast, predicted}
use Rattle.cache.specs.Recording.{learned}
use Rattle.cache.specs.Predict.{predict}
use Rattle.cache.proofs.FollowLaws.{meaning-none, meaning-chosen, meaning-is, follow-unsure, follow-sure}
use Rattle.cache.proofs.AskSteps.{start-recorded, step-recorded}
use Rattle.cache.proofs.PredictSteps.{Asking, asking-on, asking-out, asking-done, predict-starts, kinds-small}

-- ---- a word that tells no state, r being that as a number
module _ (g : Grammar) (a : ℕ) {w r : ℕ} (e : r ≡ w) (l : w ≤ full_word) where
  pub says_none : (0 < r → length (alternatives g a) < r) → Says g a w None
  says_none h =
      record {
        is = λ c. sym (follow-unsure g [] a (learned w c)
            (meaning-is g a (learned w c) ∙ meaning-none (length (alternatives g a)) (slots (length c)) w l (λ m. let n = h (omega arith) in omega arith)));
      }

  pub says-one : 0 < r → r ≤ length (alternatives g a) → Says g a w (Some r)
  says-one m n =
      record {
        is = λ c. ap (λ (v : ℕ). predicted (Some v) c) e
            ∙ sym (follow-sure g [] a w (learned w c)
            (meaning-is g a (learned w c) ∙ meaning-chosen (length (alternatives g a)) (slots (length c)) w (omega arith) (omega arith) l));
      }

-- ---- following the words c, from position i of the note w on
module _ (a : ℕ) (w c : List ℕ) (i : ℕ) where
  -- where it stands: unless it is 0, what was said last leads over what is left to what is predicted, whatever the grammar
  pub record Following (j said : ℕ) : Type 0 where
    pub leads : (g : Grammar) → (said ≡ 0 → ⊥) → Asking g a w (predict g c a (drop i (marked w))) j said c

  pub following-start : {said : ℕ} → said ≡ start_of c a → Following i said
  following-start e = record { leads = λ g n. record { is = predict-starts g c a (drop i (marked w)) (start-recorded g c a e n) } }

  -- FULL is said of no alternative of a grammar within the limits
  full-recorded : ((g : Grammar) → predicted None c ≡ predict g c a (drop i (marked w))) → Recorded c a (drop i (marked w)) full_word
  full-recorded h =
      record {
        low = omega arith;
        predicts = λ g few _. follow-unsure g [] a (learned full_word c)
            (meaning-is g a (learned full_word c)
            ∙ meaning-none (length (alternatives g a)) (slots (length c)) full_word (omega arith) (λ _. omega arith)) ∙ h g;
      }

  module _ {j said : ℕ} (x : Following j said) where
    pub following-done : said ≤ full_word → Recorded c a (drop i (marked w)) said
    following-done l = record { low = l; predicts = λ g _ n. asking-done g a w (x.leads g n) l }

    -- state s was said
    module _ (s : ℕ) (e : said ≡ state_word s) {n : ℕ} (k : n ≡ slots (length c)) where
      some-said : said ≡ 0 → ⊥
      some-said z = omega (arith, z, e)

      pub following-on : {t said' : ℕ} → s < n → get_elem? (marked w) j ≡ some t → said' ≡ step_of c s t → Following (j + 1) said'
      following-on {t} h q z = record { leads = λ g m. asking-on g a w (x.leads g some-said) e k h q (step-recorded g c a s t z m) }

      pub following-out : (n ≤ s) ⊎ ((s < n) × (length w < j)) → Recorded c a (drop i (marked w)) full_word
      following-out h = full-recorded (λ g. asking-out g a w (x.leads g some-said) e k h)

-- ---- predicting by what is recorded
module _ (t w c : List ℕ) {a i : ℕ} (h : Predictable t w c a i) where
  pub predictable-follows : Followable w c a i
  predictable-follows =
      record {
        long = h.long;
        names = omega (arith, h.names, h.ready.fits.few);
        within = h.within;
        kinds = kinds-small t h.ready w h.known;
      }

  pub predict-recorded : {said : ℕ} {x : Forecast} → Recorded c a (drop i (marked w)) said → (said ≡ 0 → ⊥) → Says (grammar_in t) a said x
      → predicted x c ≡ predict (grammar_in t) c a (drop i (marked w))
  predict-recorded q n s = s.is c ∙ q.predicts (grammar_in t) (rw h.ready.says ((compile-bounded h.ready.rules h.ready.limited).few a)) n
