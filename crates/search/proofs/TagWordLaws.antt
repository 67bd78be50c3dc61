-- Tags in words: what a word says, and the word of a tag.
use mathlib.Core.Path.{◌≡◌, sym}
use mathlib.Core.Logic.{◌⊎◌, inl, inr, ⊎_elim}
use mathlib.Core.Bool.{Bool, true, false, cond}
use Prim.Native.Nat.{ℕ, ◌+◌, ◌*◌, ◌/◌, ◌%◌, ◌-◌, ◌≤◌, ◌<◌}
use native.Mathlib.Omega.{arith}
use lib.Dec.{leb}
use borrow.Author.Tests.{eq-eqb, ne_eqb, le-leb, lt-leb}
use Rattle.search.specs.declared.words.Tag.{Tag}
use Rattle.search.specs.declared.words.Tag.TheVariants.{None, One, Several}
use Rattle.search.specs.inside.Words.{per_alternative, second_bit, several_ends, tag_from, TagFits}

-- ---- a word that is read
module _ (x : ℕ) {w : ℕ} (s : w ≡ x) where
  pub from-none : w % per_alternative ≡ 0 → None ≡ tag_from x
  unfolding tag_from
  from-none e = rw (← s, eq-eqb (w % per_alternative) 0 e)

  pub from-several : ¬ (w % per_alternative ≡ 0) → w % per_alternative ≡ several_ends → Several ≡ tag_from x
  unfolding tag_from
  from-several n e = rw (← s, ne_eqb (w % per_alternative) 0 n, eq-eqb (w % per_alternative) several_ends e)

  pub from_one : ¬ (w % per_alternative ≡ 0) → ¬ (w % per_alternative ≡ several_ends)
      → One (w % per_alternative - 1) (w / per_alternative % 32) (leb second_bit w) ≡ tag_from x
  unfolding tag_from
  from_one n m = rw (← s, ne_eqb (w % per_alternative) 0 n, ne_eqb (w % per_alternative) several_ends m)

-- ---- a word that is made
second_is : (more : Bool) {r : ℕ} → r ≡ cond more second_bit 0 → (r ≡ second_bit) ⊎ (r ≡ 0)
second_is true e = inl e
second_is false e = inr e

-- the parts are small
pub one-fits : {tag : Tag} {m b : ℕ} {more : Bool} → tag ≡ One m b more → TagFits tag → (m ≤ 128) × (b < 32)
one-fits e h = rw e at h

pub second_fits : {tag : Tag} {m b r : ℕ} (more : Bool) → tag ≡ One m b more → r ≡ cond more second_bit 0 → r ≤ second_bit
second_fits more q e = ⊎_elim (λ z. omega arith) (λ z. omega arith) (second_is more e)

pub word_none : {tag : Tag} → tag ≡ None → tag_from 0 ≡ tag
unfolding tag_from
word_none e = sym e

pub word-several : {tag : Tag} {x : ℕ} → tag ≡ Several → x ≡ several_ends → tag_from x ≡ tag
unfolding tag_from
word-several e f = rw (f, e)

pub word-one : {tag : Tag} (m b : ℕ) (more : Bool) {r x : ℕ} → tag ≡ One m b more → TagFits tag → r ≡ cond more second_bit 0
    → x ≡ m + 1 + per_alternative * b + r → tag_from x ≡ tag
unfolding tag_from
word-one {tag} m b more {r} {x} q f e z =
    let h = one-fits q f in
    let l = low h.0 (second_is more e) in
    let less : x % per_alternative - 1 ≡ m = omega arith in
    rw (
      ne_eqb (x % per_alternative) 0 (λ o. omega arith),
      ne_eqb (x % per_alternative) several_ends (λ o. omega arith),
      less,
      middle h.0 h.1 (second_is more e),
      above h.0 h.1 more e,
    ) (sym q)
  where
    low : m ≤ 128 → (r ≡ second_bit) ⊎ (r ≡ 0) → x % per_alternative ≡ m + 1
    low h (inl e) = omega arith
    low h (inr e) = omega arith

    middle : m ≤ 128 → b < 32 → (r ≡ second_bit) ⊎ (r ≡ 0) → x / per_alternative % 32 ≡ b
    middle h l (inl e) = let y : x / per_alternative ≡ b + 32 = omega arith in omega arith
    middle h l (inr e) = let y : x / per_alternative ≡ b = omega arith in omega arith

    above : m ≤ 128 → b < 32 → (more : Bool) → r ≡ cond more second_bit 0 → leb second_bit x ≡ more
    above h l true e = le-leb second_bit x (omega arith)
    above h l false e = lt-leb second_bit x (omega arith)
