-- Prints and equal states, as the code finds them.
use mathlib.Core.Path.{◌≡◌, refl, sym, ap, ◌∙◌}
use mathlib.Core.Bool.{Bool, true, false, not}
use mathlib.Core.List.{List, [], ◌∷◌}
use Rattle.std.specs.List.{fold, sum}
use Prim.Native.Nat.{ℕ, zero, suc, ◌+◌, ◌-◌, ◌*◌, ◌^◌, ◌≤◌, ◌<◌}
use native.Mathlib.Numerals.{add-one}
use native.Mathlib.Omega.{arith}
use native.Mathlib.Decide.{dec_lt}
use lib.Dec.{T, eqb}
use lib.ListN.{length, get_or, set, take, drop, length-set, length-take}
use lib.Seq.{get_or-drop, get_or-set_same, get_or-set_other}
use borrow.Author.Tests.{eqb-true}
use Rattle.base.specs.Search.{all_from}
use Rattle.base.proofs.Booleans.{and_T, T→true, ¬T→false}
use Rattle.lookahead.specs.Closing.{same_list}
use Rattle.lookahead.proofs.AddLaws.{same-list}
use Rattle.configurations.specs.Packing.{config_words, max_kept_words}
use Rattle.words.specs.Layout.{max_slots, slot_at, configs_at}
use Rattle.words.specs.Words.{held, decision, kept_count, kept_words}
use Rattle.cache.specs.inside.ByWords.{holds_words}
use Rattle.auditing.specs.Coherence.{equal?, new?, single?}
use Rattle.auditing.specs.inside.Prints.{print_of}
use Rattle.auditing.specs.inside.Relied.{Held, Printed}
use Rattle.auditing.proofs.LayoutSteps.{slots-few}

-- ---- prints
pub kept-few : (c : List ℕ) (s : ℕ) → length (kept_words c s) ≤ max_kept_words
unfolding kept_words kept_count
kept-few c s = omega (arith, length-take (config_words * kept_count c s) (drop (configs_at s) c))

-- so many words of 32 bits have a small sum
sum-below : (n : ℕ) (l : List ℕ) (a : ℕ) → ((i : ℕ) → get_or l i 0 < 2 ^ 32) → fold (λ a x. a + x) a (take n l) ≤ a + n * 2 ^ 32
sum-below zero l a h = omega arith
sum-below (suc n) [] a h = omega arith
sum-below (suc n) (w ∷ l) a h = let here = h 0 in let rest = sum-below n l (a + w) (λ i. h (suc i)) in omega arith

module _ (c : List ℕ) (s : ℕ) (h : (i : ℕ) → get_or c i 0 < 2 ^ 32) where
  pub kept-below : sum (kept_words c s) < 2 ^ 62
  unfolding kept_words kept_count
  kept-below =
      omega (arith, sum-below (config_words * kept_count c s) (drop (configs_at s) c) 0 (λ i. rw (get_or-drop (configs_at s) c i 0) (h (configs_at s + i))))

  pub decision-below : decision c s < 2 ^ 32
  unfolding decision
  decision-below = h (slot_at s)

-- ---- equal states
pub equal_is : (c : List ℕ) (p s : ℕ) {a : ℕ} {ks : List ℕ} {r : Bool} → a ≡ decision c s → ks ≡ kept_words c s → r ≡ holds_words c a ks p
    → r ≡ equal? c p s
unfolding holds_words equal?
equal_is c p s d e h = rw (← d, ← e) h

-- equal states have equal prints
equal-print : (c : List ℕ) (p s : ℕ) → T (equal? c p s) → print_of c p ≡ print_of c s
unfolding equal? print_of
equal-print c p s t =
    let (d, w) = and_T (eqb (decision c p) (decision c s)) (same_list (kept_words c p) (kept_words c s)) t in
    let x = eqb-true (decision c p) (decision c s) (T→true (eqb (decision c p) (decision c s)) d) in
    let y = same-list (kept_words c p) (kept_words c s) w in
    λ i. x i + sum (y i)

-- ---- is the state of s new
pub new-begin : (c : List ℕ) (s : ℕ) → all_from (λ (p : ℕ). not (equal? c p s)) 0 (s - 0) ≡ new? c s
unfolding new?
new-begin c s = let z : s - 0 ≡ s = omega arith in ap (all_from (λ (p : ℕ). not (equal? c p s)) 0) z

module _ (c : List ℕ) (p s : ℕ) where
  pub found-equal : {r : Bool} → r ≡ equal? c p s → r ≡ true → not (equal? c p s) ≡ false
  found-equal e t = ap not (sym e ∙ t)

  pub found-other : {r : Bool} → r ≡ equal? c p s → r ≡ false → not (equal? c p s) ≡ true
  found-other e t = ap not (sym e ∙ t)

  pub other-print : (ps : List ℕ) → Printed c ps (suc s) → p < s → (get_or ps p 0 ≡ get_or ps s 0 → ⊥) → not (equal? c p s) ≡ true
  other-print ps h l n =
      ap not (¬T→false (equal? c p s) (λ t. n (h.are p (omega arith) ∙ equal-print c p s t ∙ sym (h.are s (omega arith)))))

-- ---- all states
pub single-begin : (c : List ℕ) {n : ℕ} → n ≡ held c → all_from (new? c) 0 (n - 0) ≡ single? c
unfolding single?
single-begin c {n} e = let z : n - 0 ≡ held c = omega arith in ap (all_from (new? c) 0) z

pub none-printed : (c ps : List ℕ) → length ps ≡ max_slots → Printed c ps 0
none-printed c ps l = record { room = l; few = omega arith; are = λ p h. absurd (omega arith) }

pub one-printed : (c ps : List ℕ) (s : ℕ) {x : ℕ} → Printed c ps s → s < max_slots → x ≡ print_of c s → Printed c (set ps s x) (suc s)
one-printed c ps s {x} h l e = record { room = length-set ps s x ∙ h.room; few = omega arith; are = λ p m. go p m (dec_lt p s) }
  where
    go : (p : ℕ) → p < suc s → Dec (p < s) → get_or (set ps s x) p 0 ≡ print_of c p
    go p m (yes y) = get_or-set_other ps s p x 0 (λ z. omega arith) ∙ h.are p y
    go p m (no y) = let z : p ≡ s = omega arith in rw z (get_or-set_same ps s x 0 (omega (arith, h.room)) ∙ e)

-- as the loop counts them
pub next-printed : (c ps : List ℕ) (s : ℕ) → Printed c ps (suc s) → Printed c ps (s + 1)
next-printed c ps s h = rw (add-one s) h

-- a held slot has a print's place
pub state-low : (c : List ℕ) → Held c → {n : ℕ} → n ≡ held c → (s : ℕ) → s < n → s < max_slots
state-low c h e s l = omega (arith, slots-few (length c) refl h.few)
