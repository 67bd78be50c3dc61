-- What a word means, and where a prediction goes from there, over any words.
use mathlib.Core.Path.{◌≡◌, refl, sym, ap, ◌∙◌}
use mathlib.Core.List.{List, [], ◌∷◌}
use Prim.Native.Nat.{ℕ, zero, suc, ◌-◌, ◌≤◌, ◌<◌}
use native.Mathlib.Omega.{arith}
use native.Mathlib.Decide.{dec_lt}
use lib.Dec.{ltb}
use lib.ListN.{length}
use borrow.Author.Tests.{lt-ltb, le-ltb, le-leb, lt-leb}
use Rattle.base.proofs.Booleans.{and_none}
use Rattle.grammar.specs.Grammar.{Grammar, alternatives}
use Rattle.words.specs.Layout.{slots, full_word, state_word}
use Rattle.std.specs.Prelude.{Some, None}
use Rattle.cache.specs.Predictor.{predicted}
use Rattle.cache.specs.Recording.{Learned, learned, ask_step}
use Rattle.cache.specs.Predict.{chosen, undecided, at, meaning, meaning_of, predict_from}

-- ---- words
-- what tells no state and none of n alternatives says FULL
pub meaning-none : (n k w : ℕ) → w ≤ full_word → (0 < w → n < w) → meaning n k w ≡ undecided
unfolding meaning
meaning-none n k zero l h = refl
meaning-none n k (suc w) l h = rw (le-ltb full_word (suc w) l, lt-leb (suc w) n (h (omega arith)), and_none (ltb 0 (suc w)))

-- no state has that many slots
pub meaning-beyond : (n k w : ℕ) → full_word < w → k ≤ w - state_word 0 → meaning n k w ≡ undecided
unfolding meaning
meaning-beyond n k w l h = rw (lt-ltb full_word w l, le-ltb (w - state_word 0) k h)

pub meaning-chosen : (n k b : ℕ) → 1 ≤ b → b ≤ n → b ≤ full_word → meaning n k b ≡ chosen b
unfolding meaning
meaning-chosen n k b l h m = rw (le-ltb full_word b m, lt-ltb 0 b l, le-leb b n h)

pub meaning-state : (n k w s : ℕ) → w ≡ state_word s → s < k → meaning n k w ≡ at s
unfolding meaning
meaning-state n k w s e l = let d : w - state_word 0 ≡ s = omega arith in rw (lt-ltb full_word w (omega arith), d, lt-ltb s k l)

-- ---- predictions
module _ (g : Grammar) where
  -- the same word means the same over words of the same length
  pub meaning-same : (a : ℕ) (l : Learned) (d : List ℕ) → length d ≡ length l.words → meaning_of g a (learned l.said d) ≡ meaning_of g a l
  unfolding meaning_of
  meaning-same a l d n = ap (λ (k : ℕ). meaning (length (alternatives g a)) (slots k) l.said) n

  pub meaning-is : (a : ℕ) (l : Learned) → meaning_of g a l ≡ meaning (length (alternatives g a)) (slots (length l.words)) l.said
  unfolding meaning_of
  meaning-is a l = refl

  pub follow-unsure : (ts : List ℕ) (a : ℕ) (l : Learned) → meaning_of g a l ≡ undecided → predict_from g a ts l ≡ predicted None l.words
  unfolding predict_from
  follow-unsure [] a l e = rw (predict_from, e)
  follow-unsure (t ∷ ts) a l e = rw (predict_from, e)

  pub follow-sure : (ts : List ℕ) (a b : ℕ) (l : Learned) → meaning_of g a l ≡ chosen b → predict_from g a ts l ≡ predicted (Some b) l.words
  unfolding predict_from
  follow-sure [] a b l e = rw (predict_from, e)
  follow-sure (t ∷ ts) a b l e = rw (predict_from, e)

  pub follow-over : (a s : ℕ) (l : Learned) → meaning_of g a l ≡ at s → predict_from g a [] l ≡ predicted None l.words
  unfolding predict_from
  follow-over a s l e = rw (predict_from, e)

  pub follow-on : (t : ℕ) (ts : List ℕ) (a s : ℕ) (l : Learned) → meaning_of g a l ≡ at s → predict_from g a (t ∷ ts) l
      ≡ predict_from g a ts (ask_step g l.words a s t)
  unfolding predict_from
  follow-on t ts a s l e = rw (predict_from, e)

  -- where no state was said, the tokens that are left do not matter
  pub follow-done : (ts : List ℕ) (a w : ℕ) (c : List ℕ) → w ≤ full_word → predict_from g a [] (learned w c) ≡ predict_from g a ts (learned w c)
  follow-done ts a w c l = go (dec_lt 0 w) (dec_lt (length (alternatives g a)) w)
    where
      unsure : (0 < w → length (alternatives g a) < w) → predict_from g a [] (learned w c) ≡ predict_from g a ts (learned w c)
      unsure h =
          let e = meaning-is a (learned w c) ∙ meaning-none (length (alternatives g a)) (slots (length c)) w l h in
          follow-unsure [] a (learned w c) e ∙ sym (follow-unsure ts a (learned w c) e)

      go : Dec (0 < w) → Dec (length (alternatives g a) < w) → predict_from g a [] (learned w c) ≡ predict_from g a ts (learned w c)
      go (no p) q = unsure (λ y. absurd (p y))
      go (yes p) (yes q) = unsure (λ _. q)
      go (yes p) (no q) =
          let e = meaning-is a (learned w c) ∙ meaning-chosen (length (alternatives g a)) (slots (length c)) w p (omega arith) l in
          follow-sure [] a w (learned w c) e ∙ sym (follow-sure ts a w (learned w c) e)
