-- Asking for an outcome keeps words coherent, only grows them, and is answered by what the learning rules give, or by FULL.
use mathlib.Core.Path.{◌≡◌, refl, sym, ◌∙◌, subst}
use mathlib.Core.Logic.{◌⊎◌, inl, inr}
use mathlib.Core.Bool.{Bool, true, false, cond}
use mathlib.Core.Option.{Option, none, some}
use mathlib.Core.List.{List}
use Prim.Native.Nat.{ℕ, ◌≤◌, ◌<◌}
use lib.Dec.{eqb, ltb}
use lib.ListN.{length, set}
use borrow.Author.Tests.{eqb-true, eqb-false, ltb-true}
use Rattle.grammar.specs.Grammar.{Grammar}
use Rattle.lookahead.specs.Configs.{Config}
use Rattle.lookahead.specs.Outcomes.{Outcome, full, alternative, state, start_outcome, step_outcome}
use Rattle.words.specs.Layout.{slots, start_at, step_at, full_word, state_word}
use Rattle.words.specs.Words.{word, held, start_of, step_of, decision, kept_in, set_start, set_step, add_state}
use Rattle.cache.specs.Recording.{Learned, learned, find, record_new, record_outcome, ask_start, ask_step}
use Rattle.lookahead.specs.Configs.{Decides}
use Rattle.cache.specs.Coherent.{Says, Coherent, Extends}
use Rattle.cache.proofs.FitLaws.{Recordable, start-recordable, step-recordable}
use Rattle.cache.proofs.SuitLaws.{Suits}
use Rattle.cache.proofs.ExtendLaws.{extends-refl, extends-trans, says-extends}
use Rattle.cache.proofs.FieldLaws.{Field, of-start, of-step, field-cell, field-extends, field-says}
use Rattle.cache.proofs.FindLaws.{find-some, find_none}
use Rattle.cache.proofs.PutLaws.{put-coherent, put-grows}
use Rattle.cache.proofs.NewLaws.{Fresh, new-state}

-- what asking for the outcome o of decision a comes to
pub record Asked (g : Grammar) (bytes c : List ℕ) (a : ℕ) (o : Outcome) (l : Learned) : Type 0 where
  pub coherent : Coherent g bytes l.words
  pub extends : Extends g c l.words
  pub says : (l.said ≡ full_word) ⊎ Says l.words a l.said o

-- ---- one asking: the word i records the outcome o of decision a
abbrev pub put_at : ℕ → List ℕ → ℕ → List ℕ
put_at i c w = set c i w

-- with a slot free or not
abbrev pub by_room : List ℕ → ℕ → ℕ → List Config → Bool → Learned
by_room c i a ks b = cond b (learned (state_word (held c)) (set (add_state c a ks) i (state_word (held c)))) (learned full_word c)

-- by the slot that holds the state
abbrev pub by_find : List ℕ → ℕ → ℕ → List Config → Option ℕ → Learned
by_find c i a ks o = elim o as (λ _. Learned) [ none ↦ record_new (put_at i) c a ks | some s ↦ learned (state_word s) (set c i (state_word s)) ]

-- with nothing recorded yet or not
abbrev pub by_word : List ℕ → ℕ → ℕ → Outcome → Bool → Learned
by_word c i a o b = elim b as (λ _. Learned) [ true ↦ record_outcome (put_at i) c a o | false ↦ learned (word c i) c ]

abbrev pub ask : List ℕ → ℕ → ℕ → Outcome → Learned
ask c i a o = by_word c i a o (eqb (word c i) 0)

pub start-ask : (g : Grammar) (c : List ℕ) (a : ℕ) → ask_start g c a ≡ ask c (start_at a) a (start_outcome g a)
unfolding ask_start start_of set_start
start-ask g c a = refl

pub step-ask : (g : Grammar) (c : List ℕ) (a s t : ℕ) → ask_step g c a s t ≡ ask c (step_at s t) a (step_outcome g t (kept_in c s))
unfolding ask_step step_of set_step
step-ask g c a s t = refl

module _ (g : Grammar) (bytes : List ℕ) (suits : Suits g bytes) where
  -- what a field records decides something, and fits
  pub field-decides : {c : List ℕ} → Coherent g bytes c → {i a : ℕ} {o : Outcome} → Field g c i a o → Decides g a
  field-decides k (of-start d e q) = d
  field-decides k (of-step s t h l d e q) = rw (← d) (k.slot s h).decides

  pub field-recordable : {c : List ℕ} → Coherent g bytes c → {i a : ℕ} {o : Outcome} → Field g c i a o → Recordable o
  field-recordable k {a = a} (of-start d e q) = subst Recordable (sym q) (start-recordable g suits.bounded a)
  field-recordable {c} k (of-step s t h l d e q) = subst Recordable (sym q) (step-recordable g suits.bounded t (kept_in c s) (k.slot s h).fitting)

  -- the word was free, and a word that says the outcome is recorded
  put-asked : {c : List ℕ} → Coherent g bytes c → {i a : ℕ} {o : Outcome} → Field g c i a o → word c i ≡ 0 → (w : ℕ) → Says c a w o
      → Asked g bytes c a o (learned w (set c i w))
  put-asked {c} k {i} {a} {o} f z w y =
      let x = put-grows g bytes suits k f w z in
      record { coherent = put-coherent g bytes suits k f w z y; extends = x; says = inr (says-extends g x a w o y) }

  module _ {c : List ℕ} (k : Coherent g bytes c) {i a : ℕ} where
    -- a state that no slot holds, with a slot free
    pub field-new : {ks : List Config} → Field g c i a (state ks) → find c a ks ≡ none → held c < slots (length c) → Fresh g bytes c a ks
    field-new {ks} f e room =
        new-state g bytes suits k a ks (field-decides k f) (field-recordable k f) room (λ s h d q. find_none c a ks k.held_fits e s (h, d, q))

    new-asked : {ks : List Config} → Field g c i a (state ks) → word c i ≡ 0 → find c a ks ≡ none
        → Asked g bytes c a (state ks) (record_new (put_at i) c a ks)
    unfolding record_new
    new-asked {ks} f z e = go (ltb (held c) (slots (length c))) refl
      where
        go : (b : Bool) → ltb (held c) (slots (length c)) ≡ b → Asked g bytes c a (state ks) (by_room c i a ks b)
        go true q =
            let n = field-new f e (ltb-true (held c) (slots (length c)) q) in
            let a' = put-asked n.coherent (field-extends g n.extends f) (n.cells (field-cell g suits f) ∙ z) (state_word (held c)) n.says in
            record {
              coherent = a'.coherent;
              extends = extends-trans g c (add_state c a ks) (set (add_state c a ks) i (state_word (held c))) n.extends a'.extends;
              says = a'.says;
            }
        go false q = record { coherent = k; extends = extends-refl g c; says = inl refl }

    record-asked : (o : Outcome) → Field g c i a o → word c i ≡ 0 → Asked g bytes c a o (record_outcome (put_at i) c a o)
    unfolding record_outcome
    record-asked full f z = put-asked k f z full_word refl
    record-asked (alternative b) f z = let y = field-recordable k f in put-asked k f z b (refl, y.0, y.1)
    record-asked (state ks) f z = go (find c a ks) refl
      where
        go : (o : Option ℕ) → find c a ks ≡ o → Asked g bytes c a (state ks) (by_find c i a ks o)
        go none e = new-asked f z e
        go (some s) e = let h = find-some c a ks k.held_fits e in put-asked k f z (state_word s) (s, refl, h.0, h.1, h.2)

    pub asked : (o : Outcome) → Field g c i a o → Asked g bytes c a o (ask c i a o)
    asked o f = go (eqb (word c i) 0) refl
      where
        go : (b : Bool) → eqb (word c i) 0 ≡ b → Asked g bytes c a o (by_word c i a o b)
        go true e = record-asked o f (eqb-true (word c i) 0 e)
        go false e = record { coherent = k; extends = extends-refl g c; says = inr (field-says g suits k f (eqb-false (word c i) 0 e)) }

  pub ask-start : (c : List ℕ) (a : ℕ) → Coherent g bytes c → Decides g a → Asked g bytes c a (start_outcome g a) (ask_start g c a)
  ask-start c a k d = rw (start-ask g c a) (asked k (start_outcome g a) (of-start d refl refl))

  pub ask-step : (c : List ℕ) (a s t : ℕ) → Coherent g bytes c → s < held c → t ≤ g.kinds → decision c s ≡ a
      → Asked g bytes c a (step_outcome g t (kept_in c s)) (ask_step g c a s t)
  ask-step c a s t k h l d = rw (step-ask g c a s t) (asked k (step_outcome g t (kept_in c s)) (of-step s t h l d refl refl))
