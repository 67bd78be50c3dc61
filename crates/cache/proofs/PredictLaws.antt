-- Predictions over coherent words: they keep the words coherent, agree with every derivation, and say the same again over words that have only grown.
use mathlib.Core.Path.{◌≡◌, refl, sym, subst, ap, ◌∙◌}
use mathlib.Core.Logic.{◌⊎◌, inl, inr}
use mathlib.Core.Bool.{Bool, true, false}
use mathlib.Core.Option.{some}
use mathlib.Core.List.Memᴰ
use mathlib.Core.List.{List, [], ◌∷◌}
use Prim.Native.Nat.{ℕ, suc, ◌≤◌, ◌<◌}
use native.Mathlib.Omega.{arith}
use lib.Dec.{ltb}
use lib.ListN.{length, drop}
use borrow.Author.Tests.{ltb-true, ltb-false}
use Rattle.base.proofs.Lists.{get-below}
use Rattle.grammar.specs.Limits.{max_productions}
use Rattle.grammar.specs.Grammar.{Grammar, alternatives, first}
use Rattle.grammar.specs.inside.Ordered.{Ordered}
use Rattle.derivation.specs.Runs.{Run}
use Rattle.derivation.proofs.Notes.{get-of-drop}
use Rattle.lookahead.specs.Configs.{Config}
use Rattle.lookahead.specs.Outcomes.{Outcome, full, alternative, state, start_outcome, step_outcome, States, begun, stepped}
use Rattle.configurations.specs.Packing.{pack_all, unpack_all}
use Rattle.lookahead.specs.Rules.{Each}
use Rattle.configurations.proofs.PackLaws.{unpack-all}
use Rattle.lookahead.proofs.StateLaws.{states-packable}
use Rattle.lookahead.proofs.Following.{Valid}
use Rattle.lookahead.proofs.Agreeing.{Allows, this, there, over, Marked, start-allows, step-agrees}
use Rattle.words.specs.Layout.{slots, full_word}
use Rattle.words.specs.Words.{held, decision, kept_words, kept_in}
use Rattle.cache.specs.Recording.{Learned, learned, ask_start, ask_step}
use Rattle.std.specs.Prelude.{Some}
use Rattle.cache.specs.Predictor.{Predicted, predicted, FullOr}
use Rattle.cache.specs.Predictor as predictor
use Rattle.cache.specs.Predict.{chosen, undecided, at, meaning, meaning_of, predict_from, predict}
use Rattle.lookahead.specs.Configs.{Decides}
use Rattle.cache.specs.Coherent.{Says, Coherent, Extends}
use Rattle.cache.proofs.FollowLaws.{meaning-none, meaning-chosen, meaning-state, meaning-is, meaning-same, follow-unsure, follow-sure, follow-over}
use Rattle.cache.proofs.FollowLaws.{follow-on}
use Rattle.cache.proofs.SuitLaws.{Suits}
use Rattle.cache.proofs.ExtendLaws.{extends-refl, extends-trans}
use Rattle.cache.proofs.RecordLaws.{Asked, ask-start, ask-step}
use Rattle.cache.proofs.AgainLaws.{again-start, again-step}

-- ---- what a word means
-- what was said last of decision a means, where it was said for the outcome o
pub data Meant (g : Grammar) (a : ℕ) (l : Learned) : Outcome → Type 0 where
  unsure : {o : Outcome} → meaning_of g a l ≡ undecided → Meant g a l o
  sure : (b : ℕ) → meaning_of g a l ≡ chosen b → Meant g a l (alternative b)
  stands : (s : ℕ) (ks : List Config) → meaning_of g a l ≡ at s → s < held l.words → decision l.words s ≡ a → kept_words l.words s
      ≡ pack_all ks
      → Meant g a l (state ks)

module _ (g : Grammar) (bytes : List ℕ) (a : ℕ) (few : length (alternatives g a) ≤ max_productions) (l : Learned) where
  said-full : l.said ≡ full_word → meaning_of g a l ≡ undecided
  said-full e = meaning-is g a l ∙ meaning-none (length (alternatives g a)) (slots (length l.words)) l.said (omega arith) (λ _. omega arith)

  -- an alternative that the nonterminal does not have counts as FULL
  said-alternative : (b : ℕ) → l.said ≡ b → 1 ≤ b → b ≤ max_productions → Meant g a l (alternative b)
  said-alternative b e m n = go (ltb (length (alternatives g a)) b) refl
    where
      go : (x : Bool) → ltb (length (alternatives g a)) b ≡ x → Meant g a l (alternative b)
      go true q = let h = ltb-true (length (alternatives g a)) b q in
          unsure (meaning-is g a l ∙ meaning-none (length (alternatives g a)) (slots (length l.words)) l.said (omega arith) (λ _. omega arith))
      go false q = let h = ltb-false (length (alternatives g a)) b q in
          sure b (meaning-is g a l ∙ (ap (meaning (length (alternatives g a)) (slots (length l.words))) e
          ∙ meaning-chosen (length (alternatives g a)) (slots (length l.words)) b m (omega arith) (omega arith)))

  meant : (o : Outcome) → Coherent g bytes l.words → (l.said ≡ full_word) ⊎ Says l.words a l.said o → Meant g a l o
  meant o h (inl e) = unsure (said-full e)
  meant full h (inr e) = unsure (said-full e)
  meant (alternative b) h (inr (e, m, n)) = said-alternative b e m n
  meant (state ks) h (inr (s, e, m, d, k)) =
      stands s ks (meaning-is g a l ∙ meaning-state (length (alternatives g a)) (slots (length l.words)) l.said s e (omega (arith, h.held_fits))) m d k

-- ---- predictions
module _ (g : Grammar) (bytes : List ℕ) (suits : Suits g bytes) where
  -- all tokens are the grammar's, or the end mark
  abbrev pub Tokens : List ℕ → Type 0
  Tokens ts = Each (λ (t : ℕ). t ≤ g.kinds) ts

  -- coherent words, and all that c holds still stands in them
  abbrev pub Grown : List ℕ → List ℕ → Type 0
  Grown c d = predictor.Grown (Coherent g bytes) (Extends g) c d

  asked-meant : {c : List ℕ} {a : ℕ} {o : Outcome} {l : Learned} → Asked g bytes c a o l → Meant g a l o
  asked-meant {a = a} {o = o} {l = l} x = meant g bytes a (suits.bounded.few a) l o x.coherent x.says

  still : (c d : List ℕ) → c ≡ d → Coherent g bytes c → Grown c d
  still c d e h = rw (← e) (record { coherent = h; extends = extends-refl g c })

  abbrev Grows : List ℕ → Type 0
  Grows ts = (a : ℕ) (l : Learned) (o : Outcome) → Coherent g bytes l.words → Meant g a l o → Tokens ts
      → Grown l.words (predict_from g a ts l).state

  grow-none : Grows []
  grow-none a l o h (unsure e) k = still l.words (predict_from g a [] l).state (rw (follow-unsure g [] a l e)) h
  grow-none a l o h (sure b e) k = still l.words (predict_from g a [] l).state (rw (follow-sure g [] a b l e)) h
  grow-none a l o h (stands s ks e _ _ _) k = still l.words (predict_from g a [] l).state (rw (follow-over g a s l e)) h

  grow-on : (t : ℕ) (ts : List ℕ) → Grows ts → Grows (t ∷ ts)
  grow-on t ts rec a l o h (unsure e) k = still l.words (predict_from g a (t ∷ ts) l).state (rw (follow-unsure g (t ∷ ts) a l e)) h
  grow-on t ts rec a l o h (sure b e) k = still l.words (predict_from g a (t ∷ ts) l).state (rw (follow-sure g (t ∷ ts) a b l e)) h
  grow-on t ts rec a l o h (stands s ks e m d _) k =
      let x = ask-step g bytes suits l.words a s t h m (k t (Memᴰ.head refl)) d in
      let y = rec a (ask_step g l.words a s t) (step_outcome g t (kept_in l.words s)) x.coherent (asked-meant x) (λ u n. k u (Memᴰ.tail n)) in
      rw (follow-on g t ts a s l e) (record { coherent = y.coherent; extends = extends-trans g _ _ _ x.extends y.extends })

  follow-grows : (ts : List ℕ) → Grows ts
  follow-grows [] = grow-none
  follow-grows (t ∷ ts) = grow-on t ts (follow-grows ts)

  -- A PREDICTION KEEPS coherent words coherent, and only adds to them
  pub predict-grows : (c : List ℕ) (a : ℕ) (ts : List ℕ) → Coherent g bytes c → Decides g a → Tokens ts → Grown c (predict g c a ts).state
  unfolding predict
  predict-grows c a ts h d k =
      let x = ask-start g bytes suits c a h d in
      let y = follow-grows ts a (ask_start g c a) (start_outcome g a) x.coherent (asked-meant x) k in
      record { coherent = y.coherent; extends = extends-trans g _ _ _ x.extends y.extends }

  -- ---- a prediction agrees with every derivation
  -- every state of it is one that starts and steps give
  abbrev Given : ℕ → Outcome → Type 0
  Given a o = (ks : List Config) → o ≡ state ks → States g a ks

  module _ (ordered : Ordered g) (b : ℕ) (w : List ℕ) (marked : Marked g ordered w) where
    kept-states : {a : ℕ} (c : List ℕ) (s : ℕ) (ks : List Config) → States g a ks → kept_words c s ≡ pack_all ks → kept_in c s ≡ ks
    unfolding kept_in
    kept-states c s ks v e = ap unpack_all e ∙ unpack-all ks (states-packable g suits.bounded v)

    abbrev Agrees : List ℕ → Type 0
    Agrees ts = (a : ℕ) (l : Learned) (o : Outcome) (i : ℕ) → Coherent g bytes l.words → Meant g a l o → Given a o → Tokens ts
        → Allows g ordered b w i o → drop i w ≡ ts
        → FullOr b (predict_from g a ts l).forecast

    agree-sure : (ts : List ℕ) (a b' : ℕ) (l : Learned) (i : ℕ) → meaning_of g a l ≡ chosen b' → Allows g ordered b w i (alternative b')
        → (predict_from g a ts l).forecast ≡ Some b
    agree-sure ts a b' l i e this = rw (follow-sure g ts a b l e)

    agree-none : Agrees []
    agree-none a l o i h (unsure e) v k x q = inl (rw (follow-unsure g [] a l e))
    agree-none a l o i h (sure b' e) v k x q = inr (agree-sure [] a b' l i e x)
    agree-none a l o i h (stands s ks e _ _ _) v k x q = inl (rw (follow-over g a s l e))

    agree-step : (t : ℕ) (ts : List ℕ) → Agrees ts → (a : ℕ) (l : Learned) (s : ℕ) (ks : List Config) (i : ℕ) → Coherent g bytes l.words
        → meaning_of g a l ≡ at s → s < held l.words → decision l.words s ≡ a → kept_words l.words s ≡ pack_all ks
        → States g a ks → Tokens (t ∷ ts) → Allows g ordered b w i (state ks) → drop i w ≡ t ∷ ts
        → FullOr b (predict_from g a (t ∷ ts) l).forecast
    agree-step t ts rec a l s ks i h e m d z v k (over q) p = absurd (omega (arith, get-below w i (get-of-drop w i p).0))
    agree-step t ts rec a l s ks i h e m d z v k (there f) p =
        let x = ask-step g bytes suits l.words a s t h m (k t (Memᴰ.head refl)) d in
        let (here, rest) = get-of-drop w i p in
        let same : kept_in l.words s ≡ ks = kept-states l.words s ks v z in
        let token : f.faced.token ≡ t = let y = f.faced.stands in cc in
        let o : step_outcome g f.faced.token ks ≡ step_outcome g t (kept_in l.words s) = rw (token, same) in
        let allows = subst (Allows g ordered b w (suc i)) o (step-agrees g ordered suits.bounded marked f) in
        let given : Given a (step_outcome g t (kept_in l.words s)) = λ ls q. stepped t v (ap (step_outcome g t) (sym same) ∙ q) in
        rw (follow-on g t ts a s l e)
        (rec a (ask_step g l.words a s t) (step_outcome g t (kept_in l.words s)) (suc i) x.coherent (asked-meant x) given
        (λ u n. k u (Memᴰ.tail n)) allows rest)

    agree_on : (t : ℕ) (ts : List ℕ) → Agrees ts → Agrees (t ∷ ts)
    agree_on t ts rec a l o i h (unsure e) v k x q = inl (rw (follow-unsure g (t ∷ ts) a l e))
    agree_on t ts rec a l o i h (sure b' e) v k x q = inr (agree-sure (t ∷ ts) a b' l i e x)
    agree_on t ts rec a l o i h (stands s ks e m d z) v k x q = agree-step t ts rec a l s ks i h e m d z (v ks refl) k x q

    follow-agrees : (ts : List ℕ) → Agrees ts
    follow-agrees [] = agree-none
    follow-agrees (t ∷ ts) = agree_on t ts (follow-agrees ts)

    -- THE PREDICTION LAW: if alternative b can derive the whole rest with what is open, the prediction is FULL or exactly b
    pub predict-agrees : (c : List ℕ) (a f i : ℕ) (S : List ℕ) {r : List ℕ} → Coherent g bytes c → Decides g a → Tokens (drop i w)
        → i < length w
        → first g a b ≡ some f → Run g w (f ∷ S) i (length w) r → Valid g (f ∷ S)
        → FullOr b (predict g c a (drop i w)).forecast
    unfolding predict
    predict-agrees c a f i S h d k l q x v =
        let y = ask-start g bytes suits c a h d in
        follow-agrees (drop i w) a (ask_start g c a) (start_outcome g a) i y.coherent (asked-meant y) (λ ks e. begun e) k
        (start-allows g ordered a b f S q x l v) refl

  -- ---- a prediction again
  abbrev Again : List ℕ → Type 0
  Again ts = (a : ℕ) (l : Learned) (o : Outcome) (d : List ℕ) → Coherent g bytes l.words → Meant g a l o → Tokens ts → Coherent g bytes d
      → Extends g (predict_from g a ts l).state d → length d ≡ length l.words → predict_from g a ts (learned l.said d)
      ≡ predicted (predict_from g a ts l).forecast d

  again-unsure : (ts : List ℕ) (a : ℕ) (l : Learned) (d : List ℕ) → length d ≡ length l.words → meaning_of g a l ≡ undecided
      → predict_from g a ts (learned l.said d) ≡ predicted (predict_from g a ts l).forecast d
  again-unsure ts a l d n e = let e' : meaning_of g a (learned l.said d) ≡ undecided = meaning-same g a l d n ∙ e in
      rw (follow-unsure g ts a (learned l.said d) e', follow-unsure g ts a l e)

  again-sure : (ts : List ℕ) (a b : ℕ) (l : Learned) (d : List ℕ) → length d ≡ length l.words → meaning_of g a l ≡ chosen b
      → predict_from g a ts (learned l.said d) ≡ predicted (predict_from g a ts l).forecast d
  again-sure ts a b l d n e = let e' : meaning_of g a (learned l.said d) ≡ chosen b = meaning-same g a l d n ∙ e in
      rw (follow-sure g ts a b (learned l.said d) e', follow-sure g ts a b l e)

  again-none : Again []
  again-none a l o d h (unsure e) k j x n = again-unsure [] a l d n e
  again-none a l o d h (sure b e) k j x n = again-sure [] a b l d n e
  again-none a l o d h (stands s ks e _ _ _) k j x n =
      let e' : meaning_of g a (learned l.said d) ≡ at s = meaning-same g a l d n ∙ e in
      rw (follow-over g a s (learned l.said d) e', follow-over g a s l e)

  again-on : (t : ℕ) (ts : List ℕ) → Again ts → Again (t ∷ ts)
  again-on t ts rec a l o d h (unsure e) k j x n = again-unsure (t ∷ ts) a l d n e
  again-on t ts rec a l o d h (sure b e) k j x n = again-sure (t ∷ ts) a b l d n e
  again-on t ts rec a l o d h (stands s ks e m z _) k j x n =
      let e' : meaning_of g a (learned l.said d) ≡ at s = meaning-same g a l d n ∙ e in
      let y = ask-step g bytes suits l.words a s t h m (k t (Memᴰ.head refl)) z in
      let l' = ask_step g l.words a s t in
      let more : Tokens ts = λ u v. k u (Memᴰ.tail v) in
      let x' : Extends g (predict_from g a ts l').state d = subst (λ (f : Predicted (List ℕ)). Extends g f.state d) (follow-on g t ts a s l e) x in
      let grown = follow-grows ts a l' (step_outcome g t (kept_in l.words s)) y.coherent (asked-meant y) more in
      let said = again-step g bytes suits l.words d a s t h m (k t (Memᴰ.head refl)) z j (extends-trans g _ _ _ grown.extends x') in
      let n' : length d ≡ length l'.words = n ∙ sym y.extends.as_long in
      follow-on g t ts a s (learned l.said d) e' ∙ ap (predict_from g a ts) said
      ∙ (rw (follow-on g t ts a s l e) (rec a l' (step_outcome g t (kept_in l.words s)) d y.coherent (asked-meant y) more j x' n'))

  follow-again : (ts : List ℕ) → Again ts
  follow-again [] = again-none
  follow-again (t ∷ ts) = again-on t ts (follow-again ts)

  -- A PREDICTION THAT WAS MADE before says the same again over words that have only grown, and leaves them as found
  pub predict-again : (c d : List ℕ) (a : ℕ) (ts : List ℕ) → Coherent g bytes c → Decides g a → Tokens ts → Coherent g bytes d
      → Extends g (predict g c a ts).state d
      → predict g d a ts ≡ predicted (predict g c a ts).forecast d
  unfolding predict
  predict-again c d a ts h z k j x =
      let y = ask-start g bytes suits c a h z in
      let grown = follow-grows ts a (ask_start g c a) (start_outcome g a) y.coherent (asked-meant y) k in
      let e = extends-trans g _ _ _ grown.extends x in
      ap (predict_from g a ts) (again-start g bytes suits c d a h z j e)
      ∙ follow-again ts a (ask_start g c a) (start_outcome g a) d y.coherent (asked-meant y) k j x e.as_long
