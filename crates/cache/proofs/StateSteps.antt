-- States looked up and recorded, by the code's ways out.
use mathlib.Core.Path.{◌≡◌, refl, sym, ap, ◌∙◌}
use mathlib.Core.Bool.{Bool, true, false, ◌&&◌}
use mathlib.Core.Option.{Option, none, some}
use mathlib.Core.List.{List, [], ◌∷◌}
use Prim.Native.Nat.{ℕ, zero, suc, ◌+◌, ◌/◌, ◌≤◌, ◌<◌}
use Rattle.std.specs.Prelude as prelude
use Rattle.std.specs.Prelude.{Some, None}
use Rattle.std.specs.Option.{MatchOption}
use Rattle.std.specs.Cmp.Lexicographic.{pointwise}
use native.Mathlib.Numerals.{add-one}
use native.Mathlib.Omega.{arith}
use native.Mathlib.Decide.{dec_lt}
use lib.Dec.{T, eqb}
use lib.ListN.{length, get_or, set, take, drop, length-set, drop_of_length-le}
use lib.Seq.{sets, length-sets, drop-cons}
use borrow.Author.Tests.{lt-ltb, le-ltb, eq-eqb, ne_eqb}
use Rattle.base.specs.Search.{lowest_from, LowestIs, this, nothing}
use Rattle.base.proofs.Booleans.{clash, true→T, T→true}
use Rattle.base.proofs.Lowest.{lowest-is}
use Rattle.lookahead.specs.Closing.{same_list}
use Rattle.configurations.specs.Packing.{config_words}
use Rattle.words.specs.Layout.{slot_head, state_word, held_at, max_slots, slot_words, slots, slot_at, full_word}
use Rattle.words.specs.Words.{held, decision, kept_words, searched}
use Rattle.cache.specs.Recording.{Learned, learned}
use Rattle.cache.specs.inside.ByWords.{holds_words, find_words, found_in, add_words, say_word, new_words, on_found, state_words}
use Rattle.words.proofs.WordLaws.{slot-within}

-- ---- one slot
same_is : (k l : List ℕ) → pointwise eqb k l ≡ same_list k l
unfolding same_list
same_is [] [] = refl
same_is [] (y ∷ l) = refl
same_is (x ∷ k) [] = refl
same_is (x ∷ k) (y ∷ l) = ap (λ (b : Bool). eqb x y && b) (same_is k l)

module _ (c : List ℕ) (a : ℕ) (vs : List ℕ) (s : ℕ) {d : ℕ} (e : d ≡ decision c s) where
  pub other-decision : (d ≡ a → ⊥) → false ≡ holds_words c a vs s
  unfolding holds_words
  other-decision h = rw (ne_eqb (decision c s) a (λ z. h (e ∙ z)))

  pub same-decision : d ≡ a → {ks : List ℕ} {r : Bool} → ks ≡ kept_words c s → r ≡ pointwise eqb ks vs → r ≡ holds_words c a vs s
  unfolding holds_words
  same-decision h {ks} p q = rw (eq-eqb (decision c s) a (sym e ∙ h), ← p) (q ∙ same_is ks vs)

-- ---- the search, as the library tells what it finds
abbrev First : (ℕ → Bool) → ℕ → prelude.Option ℕ → Type 0
First p n r =
    MatchOption r ((k : ℕ) → 0 ≤ k → k < n → p k ≡ false) (λ i. (0 ≤ i) × (i < n) × (p i ≡ true) × ((k : ℕ) → 0 ≤ k → k < i → p k ≡ false))

first-is : (p : ℕ → Bool) (n : ℕ) (r : prelude.Option ℕ) → First p n r → r ≡ found_in (lowest_from p 0 n)
first-is p n r h = go r h (lowest-is Passes p n (λ k l t. (t, l)) (λ k x. x))
  where
    Passes : ℕ → Type 0
    Passes k = T (p k) × (k < n)

    go : (r : prelude.Option ℕ) → First p n r → {o : Option ℕ} → LowestIs Passes o → r ≡ found_in o
    go None h (this k x l) = let (t, m) = x in clash (let z = h k (omega arith) m in let y = T→true (p k) t in cc)
    go None h (nothing m) = refl
    go (Some i) h (this k x l) =
        let low = l i (true→T (p i) h.2, h.1) in
        let e : i ≡ k = elim (dec_lt k i) [
          | yes m ↦ clash (let z = h.3 k (omega arith) m in let y = T→true (p k) x.0 in cc)
          | no m ↦ omega arith
        ] in
        ap {B = prelude.Option ℕ} Some e
    go (Some i) h (nothing m) = absurd (m i (true→T (p i) h.2, h.1))

pub found-slot : (c : List ℕ) (a : ℕ) (vs : List ℕ) {n : ℕ} {r : prelude.Option ℕ} → n ≡ searched c → First (holds_words c a vs) n r
    → r ≡ found_in (find_words c a vs)
unfolding find_words
found-slot c a vs e h = rw (← e) (first-is (holds_words c a vs) _ _ h)

pub searched-low : (c : List ℕ) {n : ℕ} → n ≡ searched c → (s : ℕ) → s < n → s < slots (length c)
unfolding searched
searched-low c e s h = omega arith

searched-few : (c : List ℕ) → searched c ≤ max_slots
unfolding searched slots
searched-few c = omega arith

-- what a search finds lies in what was searched
lowest-within : (p : ℕ → Bool) (i n s : ℕ) → lowest_from p i n ≡ some s → s < i + n
unfolding lowest_from
lowest-within p i zero s e = clash (cc)
lowest-within p i (suc n) s e = go (p i) e (lowest-within p (suc i) n s)
  where
    go : (b : Bool) → elim b as (λ _. Option ℕ) [ true ↦ some i | false ↦ lowest_from p (suc i) n ] ≡ some s
        → (lowest_from p (suc i) n ≡ some s → s < suc i + n) → s < i + suc n
    go true e rec = let z : i ≡ s = cc in omega arith
    go false e rec = let h = rec e in omega arith

-- ---- recording a state
pub stored-long : (c : List ℕ) (i u v : ℕ) (vs : List ℕ) {c₁ : List ℕ} → c₁ ≡ sets (set (set c i u) (i + 1) v) (i + slot_head) vs
    → length c₁ ≡ length c
stored-long c i u v vs e =
    ap (λ (l : List ℕ). length l) e ∙ length-sets (set (set c i u) (i + 1) v) (i + slot_head) vs ∙ length-set (set c i u) (i + 1) v ∙ length-set c i u

-- ---- storing: the words from k on are still to store
unfoldable pub Stored : List ℕ → List ℕ → ℕ → List ℕ → ℕ → Type 0
Stored c₀ c at vs k = sets c (at + k) (drop k vs) ≡ sets c₀ at vs

pub stored-begins : (c₀ : List ℕ) (at : ℕ) (vs : List ℕ) → Stored c₀ c₀ at vs 0
unfolding Stored
stored-begins c₀ at vs = let e : at + 0 ≡ at = omega arith in rw e

module _ (c₀ c : List ℕ) (at : ℕ) (vs : List ℕ) (k : ℕ) (x : Stored c₀ c at vs k) where
  pub stored_next : {v : ℕ} → k < length vs → v ≡ get_or vs k 0 → Stored c₀ (set c (at + k) v) at vs (k + 1)
  unfolding Stored
  stored_next {v} l e =
      let y : sets c (at + k) (get_or vs k 0 ∷ drop (suc k) vs) ≡ sets c₀ at vs = rw (drop-cons vs k 0 l) at x in
      let z : at + suc k ≡ suc (at + k) = omega arith in
      rw (add-one k, e, z) y

  pub stored-ends : length vs ≤ k → c ≡ sets c₀ at vs
  unfolding Stored
  stored-ends l =
      let y : sets c (at + k) [] ≡ sets c₀ at vs = rw (drop_of_length-le vs {i = k} l) at x in
      y

pub slot-below : (l : ℕ) {s n : ℕ} → n ≡ slots l → s < n → (s < max_slots) × (slot_at s + slot_words ≤ l)
unfolding slots
slot-below l {s} {n} e h = let q : s < slots l = omega arith in (omega arith, slot-within l s q)

pub added_is : (c : List ℕ) (a : ℕ) (vs : List ℕ) {c₁ : List ℕ} {s at u v w : ℕ} → s ≡ held c → at ≡ slot_at s → u ≡ a → v ≡ length vs / config_words
    → w ≡ s + 1
    → c₁ ≡ sets (set (set c at u) (at + 1) v) (at + slot_head) vs → set c₁ held_at w ≡ add_words c a vs
unfolding add_words
added_is c a vs e f g h k x = rw (x, k, h, g, f, e, add-one (held c), add-one (slot_at (held c)))

module _ (i : ℕ) (c : List ℕ) (a : ℕ) (vs : List ℕ) where
  pub new-held : {c₁ : List ℕ} {x : Learned} {s v : ℕ} → s ≡ held c → s < slots (length c) → c₁ ≡ add_words c a vs → v ≡ state_word s
      → x ≡ say_word i c₁ v
      → x ≡ new_words i c a vs
  unfolding new_words
  new-held e h f g x =
      let q = lt-ltb (held c) (slots (length c)) (omega arith) in
      rw q (x ∙ rw (g, f, e))

  pub new-full : {s : ℕ} → s ≡ held c → slots (length c) ≤ s → learned full_word c ≡ new_words i c a vs
  unfolding new_words
  new-full e h = rw (le-ltb (held c) (slots (length c)) (omega arith))

  module _ {f : prelude.Option ℕ} (e : f ≡ found_in (find_words c a vs)) where
    pub state-found : {x : Learned} {s v : ℕ} → f ≡ Some s → v ≡ state_word s → x ≡ say_word i c v → x ≡ state_words i c a vs
    unfolding state_words
    state-found {x} {s} {v} h g y = go (find_words c a vs) (sym e ∙ h)
      where
        go : (o : Option ℕ) → found_in o ≡ Some s → x ≡ on_found i c a vs o
        go none q = clash (cc)
        go (some t) q = let z : t ≡ s = cc in rw z (rw g at y)

    pub state-new : {x : Learned} → f ≡ None → x ≡ new_words i c a vs → x ≡ state_words i c a vs
    unfolding state_words
    state-new {x} h y = go (find_words c a vs) (sym e ∙ h)
      where
        go : (o : Option ℕ) → found_in o ≡ None → x ≡ on_found i c a vs o
        go none q = y
        go (some t) q = clash (cc)

    pub found-low : {s : ℕ} → f ≡ Some s → s < max_slots
    unfolding find_words
    found-low {s} h = go (find_words c a vs) refl (sym e ∙ h)
      where
        go : (o : Option ℕ) → find_words c a vs ≡ o → found_in o ≡ Some s → s < max_slots
        go none z q = clash (cc)
        go (some t) z q = let y : t ≡ s = cc in omega (arith, lowest-within (holds_words c a vs) 0 (searched c) t z, searched-few c)
