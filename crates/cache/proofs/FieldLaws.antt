-- The words that record outcomes, starts and steps alike: where they stand, and what coherent words say there.
use mathlib.Core.Path.{◌≡◌, refl, sym, ap, ◌∙◌}
use mathlib.Core.Logic.{◌⊎◌, inl, inr, ◌≢◌, ◌↔◌}
use mathlib.Core.List.{List}
use Prim.Native.Nat.{ℕ, ◌+◌, ◌≤◌, ◌<◌}
use native.Mathlib.Omega.{arith}
use native.Mathlib.Decide.{dec_lt}
use lib.ListN.{length}
use Rattle.grammar.specs.Limits.{max_nonterminals, max_kinds}
use Rattle.grammar.specs.Grammar.{Grammar}
use Rattle.lookahead.specs.Configs.{Decides}
use Rattle.lookahead.specs.Order.{Packable}
use Rattle.lookahead.specs.Outcomes.{Outcome, start_outcome, step_outcome}
use Rattle.lookahead.specs.Rules.{Each}
use Rattle.configurations.proofs.UnpackLaws.{unpacked}
use Rattle.words.specs.Layout.{kept_room, fixed_words, held_at, start_at, bytes_at, slot_at, count_at, step_at, configs_at}
use Rattle.words.specs.Words.{word, held, start_of, step_of, decision, kept_words, kept_in}
use Rattle.cache.specs.Coherent.{Says, SaysGiven, Coherent, Used, size, start, byte, its-decision, count, step, kept, Extends}
use Rattle.words.proofs.WordLaws.{kept-room}
use Rattle.cache.proofs.SuitLaws.{Suits}
use Rattle.cache.proofs.ExtendLaws.{kept-extends}

-- ---- addresses
-- the word i records a start or a step
pub data Cell (i : ℕ) : Type 0 where
  start_cell : (a : ℕ) → a < max_nonterminals → i ≡ start_at a → Cell i
  step-cell : (s t : ℕ) → t ≤ max_kinds → i ≡ step_at s t → Cell i

-- it is none of the other fields
pub cell-held : {i : ℕ} → Cell i → i ≢ held_at
cell-held (start_cell a h e) q = omega arith
cell-held (step-cell s t h e) q = omega arith

pub cell-fixed : {i : ℕ} → Cell i → (j : ℕ) → (j < held_at) ⊎ ((bytes_at ≤ j) × (j < fixed_words)) → j ≢ i
cell-fixed (start_cell a h e) j (inl l) q = omega arith
cell-fixed (start_cell a h e) j (inr (l, m)) q = omega arith
cell-fixed (step-cell s t h e) j (inl l) q = omega arith
cell-fixed (step-cell s t h e) j (inr (l, m)) q = omega arith

pub cell-slot : {i : ℕ} → Cell i → (s : ℕ) → i ≢ slot_at s
cell-slot (start_cell a h e) s q = omega arith
cell-slot (step-cell s' t h e) s q = omega arith

pub cell-count : {i : ℕ} → Cell i → (s : ℕ) → i ≢ count_at s
cell-count (start_cell a h e) s q = omega arith
cell-count (step-cell s' t h e) s q = omega arith

pub cell-configs : {i : ℕ} → Cell i → (s : ℕ) → (i < configs_at s) ⊎ (configs_at s + kept_room ≤ i)
cell-configs (start_cell a h e) s = inl (omega arith)
cell-configs {i} (step-cell s' t h e) s = go (dec_lt s s')
  where
    go : Dec (s < s') → (i < configs_at s) ⊎ (configs_at s + kept_room ≤ i)
    go (yes l) = inr (omega arith)
    go (no l) = inl (omega arith)

-- ---- what is said
-- where one outcome is given, a word says a given outcome exactly if it says that one
pub says-given : {c : List ℕ} {a w : ℕ} {Given : Outcome → Type 0} {o : Outcome} → ((p : Outcome) → Given p ↔ (o ≡ p))
    → SaysGiven c a w Given ↔ Says c a w o
says-given {o = o} one = (λ x. let e = (one x.outcome).0 x.given in rw e x.says, λ y. record { outcome = o; given = (one o).1 refl; says = y })

-- any words of a slot can be said by packed values
pub kept-packable : (c : List ℕ) (s : ℕ) → Each Packable (kept_in c s)
unfolding kept_in
kept-packable c s = unpacked (kept_words c s)

-- ---- fields
-- the word i of c records the outcome o of decision a
pub data Field (g : Grammar) (c : List ℕ) (i a : ℕ) (o : Outcome) : Type 0 where
  of-start : Decides g a → i ≡ start_at a → o ≡ start_outcome g a → Field g c i a o
  of-step : (s t : ℕ) → s < held c → t ≤ g.kinds → decision c s ≡ a → i ≡ step_at s t → o ≡ step_outcome g t (kept_in c s) → Field g c i a o

module _ (g : Grammar) where
  pub field-cell : {bytes : List ℕ} → Suits g bytes → {c : List ℕ} {i a : ℕ} {o : Outcome} → Field g c i a o → Cell i
  field-cell u (of-start d e _) = start_cell _ (u.decisions _ d) e
  field-cell u (of-step s t h l _ e _) = step-cell s t (omega (arith, u.kinds)) e

  -- a field stays one
  pub field-extends : {c c' : List ℕ} → Extends g c c' → {i a : ℕ} {o : Outcome} → Field g c i a o → Field g c' i a o
  field-extends x (of-start d e q) = of-start d e q
  field-extends x (of-step s t h l d e q) =
      of-step s t (omega (arith, x.more)) l (x.same-decision s h ∙ d) e (q ∙ ap (step_outcome g t) (sym (kept-extends g x s h)))

  -- and what it records stays
  pub recorded-stays : {bytes : List ℕ} → Suits g bytes → {c c' : List ℕ} → Extends g c c' → {i a : ℕ} {o : Outcome} → Field g c i a o
      → word c i ≢ 0 → word c' i ≡ word c i
  unfolding start_of step_of
  recorded-stays u {c} {c'} x (of-start d e q) n = rw e (x.same_start _ (u.decisions _ d) (rw e at n))
  recorded-stays u {c} {c'} x (of-step s t h l d e q) n = rw e (x.same_step s t h (omega (arith, u.kinds)) (rw e at n))

  -- coherent words say the outcome in every field that records one
  pub field-says : {bytes : List ℕ} → Suits g bytes → {c : List ℕ} → Coherent g bytes c → {i a : ℕ} {o : Outcome} → Field g c i a o
      → word c i ≢ 0 → Says c a (word c i) o
  unfolding start_of step_of
  field-says u {c} k {i} {a} (of-start d e q) n = rw (q, e) ((says-given (u.starts a)).0 (k.started a d (rw e at n)))
  field-says u {c} k {i} {a} (of-step s t h l d e q) n =
      rw (q, e, ← d) ((says-given (u.steps (kept_in c s) (kept-packable c s) t)).0 (k.stepped s t h l (rw e at n)))

  -- ---- used words
  pub field-used : {bytes c : List ℕ} {i a : ℕ} {o : Outcome} → Field g c i a o → Used g bytes c i
  field-used {a = a} (of-start d e q) = start a d e
  field-used (of-step s t h l d e q) = step s t h l e

  pub used-extends : {bytes c c' : List ℕ} → Extends g c c' → {i : ℕ} → Used g bytes c i → Used g bytes c' i
  used-extends x (size h l) = size h l
  used-extends x (start a d e) = start a d e
  used-extends x (byte j h e) = byte j h e
  used-extends x (its-decision s h e) = its-decision s (omega (arith, x.more)) e
  used-extends x (count s h e) = count s (omega (arith, x.more)) e
  used-extends x (step s t h l e) = step s t (omega (arith, x.more)) l e
  used-extends x (kept s j h l e) = kept s j (omega (arith, x.more)) (let q = ap length (x.same_kept s h) in omega arith) e

  -- the steps of a slot that holds no state
  pub unheld-step : {bytes c : List ℕ} → Suits g bytes → (s t : ℕ) → held c ≤ s → t ≤ max_kinds → {i : ℕ} → i ≡ step_at s t
      → ¬ Used g bytes c i
  unheld-step u s t h l e (size _ m) = omega arith
  unheld-step u s t h l e (start a d q) = let b = u.decisions a d in omega arith
  unheld-step u s t h l e (byte j b q) = omega (arith, u.packed)
  unheld-step u s t h l e (its-decision s' b q) = omega arith
  unheld-step u s t h l e (count s' b q) = omega arith
  unheld-step u s t h l e (step s' t' b b' q) = omega (arith, u.kinds)
  unheld-step {bytes} {c} u s t h l e (kept s' j b b' q) = omega (arith, kept-room c s')
