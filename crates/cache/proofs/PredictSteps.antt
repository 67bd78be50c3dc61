-- A prediction as the code makes it: turn by turn, and its ways out.
use mathlib.Core.Path.{◌≡◌, refl, sym, ap, ◌∙◌}
use mathlib.Core.Bool.{Bool, true, false}
use mathlib.Core.Option.{some}
use mathlib.Core.List.{List, []}
use mathlib.Core.Logic.{◌⊎◌, inl, inr}
use Prim.Native.Nat.{ℕ, suc, ◌+◌, ◌≤◌, ◌<◌}
use native.Mathlib.Numerals.{add-one}
use native.Mathlib.Omega.{arith}
use lib.Dec.{ltb}
use lib.ListN.{length, get_or, get_elem?, drop, drop_of_length-le}
use borrow.Author.Tests.{ltb-true, ltb-false}
use Rattle.base.proofs.Lists.{get-below}
use Rattle.grammar.specs.Limits.{max_kinds}
use Rattle.grammar.specs.Grammar.{Grammar, alternatives, compile}
use Rattle.grammar.specs.inside.Tables.{grammar_in}
use Rattle.derivation.specs.Runs.{marked}
use Rattle.derivation.specs.inside.Ready.{Ready}
use Rattle.derivation.specs.Demand2.{Known}
use Rattle.derivation.proofs.Notes.{drop-of-get}
use Rattle.derivation.proofs.MarkedCells.{length_marked}
use Rattle.derivation.proofs.TokenLaws.{token-mark, token-note}
use Rattle.words.specs.Layout.{slots, full_word, state_word}
use Rattle.std.specs.Prelude.{None}
use Rattle.cache.specs.Predictor.{Predicted, predicted}
use Rattle.cache.specs.Recording.{Learned, learned, ask_start, ask_step}
use Rattle.cache.specs.Predict.{undecided, at, meaning, meaning_of, predict_from, predict}
use Rattle.cache.proofs.LengthLaws.{length-ask_start, length-ask_step}
use Rattle.cache.proofs.FollowLaws.{meaning-beyond, meaning-state, meaning-is, follow-unsure, follow-over, follow-on, follow-done}

module _ (g : Grammar) (a : ℕ) (w : List ℕ) where
  -- where a prediction stands: this was said of what lies before position j, and the rest is left
  pub record Asking (end : Predicted (List ℕ)) (j said : ℕ) (c : List ℕ) : Type 0 where
    pub is : predict_from g a (drop j (marked w)) (learned said c) ≡ end

  module _ {end : Predicted (List ℕ)} {j said : ℕ} {c : List ℕ} (x : Asking end j said c) where
    abbrev count : ℕ
    count = length (alternatives g a)

    -- what says nothing ends it
    unsure : meaning count (slots (length c)) said ≡ undecided → predicted None c ≡ end
    unsure e = sym (follow-unsure g (drop j (marked w)) a (learned said c) (meaning-is g a (learned said c) ∙ e)) ∙ x.is

    -- state s was said
    module _ {s : ℕ} (e : said ≡ state_word s) {n : ℕ} (k : n ≡ slots (length c)) where
      standing : s < n → meaning_of g a (learned said c) ≡ at s
      standing h = meaning-is g a (learned said c) ∙ meaning-state count (slots (length c)) said s e (omega arith)

      pub asking-on : {t : ℕ} {said' : ℕ} {c' : List ℕ} → s < n → get_elem? (marked w) j ≡ some t → learned said' c' ≡ ask_step g c a s t
          → Asking end (j + 1) said' c'
      asking-on {t} h q z =
          rw (add-one j)
          (record {
            is = ap (predict_from g a (drop (suc j) (marked w))) z
                ∙ sym (follow-on g t (drop (suc j) (marked w)) a s (learned said c) (standing h))
                ∙ ap (λ (ts : List ℕ). predict_from g a ts (learned said c)) (sym (drop-of-get (marked w) j q)) ∙ x.is;
          })

      -- a slot that there is not, or no token left
      pub asking-out : (n ≤ s) ⊎ ((s < n) × (length w < j)) → predicted None c ≡ end
      asking-out (inl m) = unsure (meaning-beyond count (slots (length c)) said (omega arith) (omega arith))
      asking-out (inr (l, m)) =
          sym (follow-over g a s (learned said c) (standing l))
          ∙ ap (λ (ts : List ℕ). predict_from g a ts (learned said c)) (sym (drop_of_length-le (marked w) {i = j} (omega (arith, length_marked w)))) ∙ x.is

    -- no state was said: that says what is predicted
    pub asking-done : said ≤ full_word → predict_from g a [] (learned said c) ≡ end
    asking-done l = follow-done g (drop j (marked w)) a said c l ∙ x.is

-- a prediction begins as its decision's start says
pub predict-starts : (g : Grammar) (c : List ℕ) (a : ℕ) (ts : List ℕ) {l : Learned} → l ≡ ask_start g c a → predict_from g a ts l ≡ predict g c a ts
unfolding predict
predict-starts g c a ts e = ap (predict_from g a ts) e

-- what is asked keeps the cache's length, so the count of its slots
words-kept : {l m : Learned} {n : ℕ} → l ≡ m → length m.words ≡ n → length l.words ≡ n
words-kept e k = ap (λ (l : Learned). length l.words) e ∙ k

module _ (g : Grammar) (c : List ℕ) (a : ℕ) {n said : ℕ} {c' : List ℕ} where
  pub start-slots : learned said c' ≡ ask_start g c a → n ≡ slots (length c) → n ≡ slots (length c')
  start-slots e k = k ∙ ap slots (sym (words-kept e (length-ask_start g c a)))

  pub step-slots : (s t : ℕ) → learned said c' ≡ ask_step g c a s t → n ≡ slots (length c) → n ≡ slots (length c')
  step-slots s t e k = k ∙ ap slots (sym (words-kept e (length-ask_step g c a s t)))

-- tokens of a known note are within the limits
pub kinds-small : (t : List ℕ) → Ready t → (w : List ℕ) → Known (grammar_in t).kinds w → (j : ℕ) → j < length w → get_or w j 0 ≤ max_kinds
unfolding compile
kinds-small t h w k j l = let kinds : (grammar_in t).kinds ≤ max_kinds = rw h.says h.limited.kinds-most in omega (arith, (k j l).1, kinds)

-- and so is the end mark
pub token-small : (w : List ℕ) → ((j : ℕ) → j < length w → get_or w j 0 ≤ max_kinds) → (j : ℕ) {u : ℕ} → get_elem? (marked w) j ≡ some u → u ≤ max_kinds
token-small w k j {u} e = go (ltb j (length w)) refl
  where
    go : (b : Bool) → ltb j (length w) ≡ b → u ≤ max_kinds
    go true q =
        let l = ltb-true j (length w) q in
        let z : some (get_or w j 0) ≡ some u = sym (token-note w j l refl) ∙ e in
        let y : get_or w j 0 ≡ u = cc in omega (arith, k j l)
    go false q =
        let n : j < length (marked w) = get-below (marked w) j e in
        let z : some 0 ≡ some u = sym (token-mark w j (omega (arith, ltb-false j (length w) q, length_marked w))) ∙ e in
        let y : 0 ≡ u = cc in omega arith
