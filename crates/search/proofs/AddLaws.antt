-- Ends that are added, one and all members of a set: what the code keeps is what `add` of the laws says, and tells the ends of one alternative more.
use mathlib.Core.Path.{◌≡◌, refl, sym, ap, ◌∙◌, subst, fun_ext}
use mathlib.Core.Logic.{◌↔◌}
use mathlib.Core.Bool.{Bool, true, false, cond, ◌||◌, not}
use mathlib.Core.Option.{some}
use mathlib.Core.List.{List}
use Prim.Native.Nat.{ℕ, suc, ◌+◌, ◌≤◌, ◌<◌}
use native.Mathlib.Omega.{arith}
use native.Mathlib.Decide.{dec_lt}
use lib.Dec.{T, eqb}
use lib.ListN.{length, get_elem?}
use borrow.Author.Tests.{eq-eqb, ne_eqb, not-true, not-false}
use Rattle.base.proofs.Booleans.{true→T, false→¬T}
use Rattle.base.proofs.Lists.{get_or-get}
use Rattle.grammar.specs.Limits.{end_mark}
use Rattle.grammar.specs.Grammar.{Grammar}
use Rattle.positions.specs.inside.Positions.{set_words, position_count, empty_set, member, with_of, NextOf}
use Rattle.positions.proofs.SetLaws.{member-empty, member-with, length-with}
use Rattle.cells.proofs.ThroughLaws.{next-behind}
use Rattle.derivation.specs.Runs.{marked}
use Rattle.first_follow.specs.inside.Words.{masks_in}
use Rattle.filtering.specs.inside.Beginnings.{token_at}
use Rattle.filtering.specs.inside.Filtered.{EndsBy}
use Rattle.filtering.specs.inside.Tags as tags
use Rattle.filtering.proofs.PartLaws.{below-begin, below-pass, below-add, below_end}
use Rattle.search.specs.inside.Words.{tag_of}
use Rattle.search.specs.inside.Trials.{told_by, EndsFit, AddedAll}
use Rattle.search.specs.declared.words.Tag.{Tag}
use Rattle.search.specs.declared.words.Tag.TheVariants.{None, One, Several}
use Rattle.search.specs.declared.adding.Ends.{Ends}

-- ---- one end more, j by alternative k
module _ (k j : ℕ) (s : List ℕ) where
  pub add_none : {t : Tag} → t ≡ None → tags.one_end j k false ≡ tags.add (tag_of t s) k j
  unfolding tags.add
  add_none q = sym (ap (λ (t : Tag). tags.add (tag_of t s) k j) q)

  -- the single end again, or another one
  add-single : (m b : ℕ) (more : Bool) {t : Tag} → t ≡ One m b more → tags.add (tag_of t s) k j
      ≡ cond (eqb m j) (tags.one_end m b (more || not (eqb b k))) (tags.ends (λ x. eqb x m || eqb x j))
  unfolding tags.add
  add-single m b more q = ap (λ (t : Tag). tags.add (tag_of t s) k j) q

  pub add-again : (m b : ℕ) (more : Bool) {t : Tag} → t ≡ One m b more → m ≡ j → {v : Bool} → v ≡ (more || not (eqb b k))
      → tags.one_end m b v ≡ tags.add (tag_of t s) k j
  add-again m b more q e h = rw (add-single m b more q, eq-eqb m j e) (ap (λ (v : Bool). tags.one_end m b v) h)

  pub add-other : (m b : ℕ) (more : Bool) {t : Tag} → t ≡ One m b more → ¬ (m ≡ j) → m < position_count → j < position_count
      → {e x y : List ℕ} → e ≡ empty_set → x ≡ with_of e m → y ≡ with_of x j → tags.ends (member y) ≡ tags.add (tag_of t s) k j
  add-other m b more q n l h {e} {x} {y} u v z =
      rw (add-single m b more q, ne_eqb m j n) (ap tags.ends (fun_ext held))
    where
      first : (i : ℕ) → member x i ≡ eqb i m
      first i = rw (v, u, member-with empty_set m i (omega arith), member-empty i)

      long : length x ≡ set_words
      long = rw (v, length-with e m, u)

      held : (i : ℕ) → member y i ≡ (eqb i m || eqb i j)
      held i = let d = long in rw (z, member-with x j i (omega arith), first i)

  pub add-several : {t : Tag} → t ≡ Several → length s ≡ set_words → j < position_count → {y : List ℕ} → y ≡ with_of s j
      → tags.ends (member y) ≡ tags.add (tag_of t s) k j
  unfolding tags.add
  add-several q long l {y} z =
      ap tags.ends (fun_ext held) ∙ sym (ap (λ (t : Tag). tags.add (tag_of t s) k j) q)
    where
      held : (i : ℕ) → member y i ≡ (member s i || eqb i j)
      held i = rw (z, member-with s j i (omega arith))

-- whether another alternative gives the end, as the code works it out
pub more-then : (more x : Bool) {v : Bool} → more ≡ true → v ≡ more → v ≡ (more || x)
more-then more x p q = rw p (q ∙ p)

pub more-else : (more x : Bool) {v : Bool} → more ≡ false → v ≡ x → v ≡ (more || x)
more-else more x p q = rw p q

-- ---- the filter
module _ (w : List ℕ) (j : ℕ) {u : ℕ} (e : get_elem? (marked w) j ≡ some u) where
  -- the token that was read is the one at the position
  pub token-is : u ≡ token_at (marked w) j
  token-is = sym (get_or-get (marked w) j end_mark e)

  module _ (ms : List ℕ) (a : ℕ) {v : Bool} (q : v ≡ (masks_in ms).follows u a) (x y : tags.Tag) where
    pub drops : not v ≡ true → y ≡ cond ((masks_in ms).follows (token_at (marked w) j) a) x y
    drops n = let h : (masks_in ms).follows (token_at (marked w) j) a ≡ false = rw (← token-is) (sym q ∙ not-true v n) in rw h

    pub keeps : not v ≡ false → {z : tags.Tag} → z ≡ x → z ≡ cond ((masks_in ms).follows (token_at (marked w) j) a) x y
    keeps n r = let h : (masks_in ms).follows (token_at (marked w) j) a ≡ true = rw (← token-is) (sym q ∙ not-false v n) in rw h r

-- a set with one member more has as many words
pub with-long : (s : List ℕ) {r : List ℕ} (j : ℕ) → length s ≡ set_words → r ≡ with_of s j → length r ≡ set_words
with-long s j h e = ap length e ∙ (length-with s j ∙ h)

-- ---- the members of a set in rising order
-- the alternative's ends are the members whose token may follow a
abbrev EndsAre : List ℕ → List ℕ → ℕ → List ℕ → Grammar → ℕ → ℕ → Type 0
EndsAre ms w a x g i k =
    (m : ℕ) → EndsBy g (masks_in ms) (marked w) a i k m ↔ (T (member x m) × T ((masks_in ms).follows (token_at (marked w) m) a))

module _ (ms w : List ℕ) (a k : ℕ) (x : List ℕ) (before : Ends) where
  -- m is the next member, and those below it were added
  pub record Adding (m : ℕ) (r : Ends) : Type 0 where
    pub fits : EndsFit r
    pub most : m ≤ position_count
    pub found : m < position_count → member x m ≡ true
    pub told : (g : Grammar) (i l : ℕ) → k ≡ suc l → EndsAre ms w a x g i (suc l) → tags.TaggedTo g (masks_in ms) (marked w) a i l (told_by before)
        → tags.TaggedPart g (masks_in ms) (marked w) a i l (λ n. n < m) (told_by r)

  -- what is no member is no end
  out : (g : Grammar) (i b m : ℕ) → EndsAre ms w a x g i b → member x m ≡ false → ¬ EndsBy g (masks_in ms) (marked w) a i b m
  out g i b m h q y = false→¬T (member x m) q ((h m).0 y).0

  pub adding-begins : (m : ℕ) → EndsFit before → NextOf x 0 m → Adding m before
  adding-begins m f h = record {
    fits = f;
    most = h.most;
    found = h.found;
    told = λ g i l e y z.
        below-pass g (masks_in ms) (marked w) a i l (told_by before) 0 m (omega arith) (λ n u v. out g i (suc l) n y (h.none n u v))
        (below-begin g (masks_in ms) (marked w) a i l (told_by before) z);
  }

  module _ {m : ℕ} {r : Ends} (inv : Adding m r) (m' : ℕ) (r' : Ends) (inside : m < position_count) (h : NextOf x (m + 1) m') (f : EndsFit r') where
    above : m < m'
    above = next-behind x m m' h inside

    -- the token there may follow
    abbrev may : Bool
    may = (masks_in ms).follows (token_at (marked w) m) a

    -- the member is added, or its token may not follow
    pub adding-next : told_by r' ≡ cond may (tags.add (told_by r) k m) (told_by r) → Adding m' r'
    adding-next q = record { fits = f; most = h.most; found = h.found; told = λ g i l e y z. go g i l e y z may refl }
      where
        go : (g : Grammar) (i l : ℕ) → k ≡ suc l → EndsAre ms w a x g i (suc l) → tags.TaggedTo g (masks_in ms) (marked w) a i l (told_by before)
            → (v : Bool) → may ≡ v → tags.TaggedPart g (masks_in ms) (marked w) a i l (λ n. n < m') (told_by r')
        go g i l e y z true v =
            let s : told_by r' ≡ tags.add (told_by r) (suc l) m = rw (v, e) at q in
            let n : EndsBy g (masks_in ms) (marked w) a i (suc l) m = (y m).1 (true→T (member x m) (inv.found inside), true→T may v) in
            let p =
            below-add g (masks_in ms) (marked w) a i l (told_by r) m m (omega arith) (λ n u o. absurd (omega arith)) n (inv.told g i l e y z) in
            rw s (below-pass g (masks_in ms) (marked w) a i l (tags.add (told_by r) (suc l) m) (suc m) m' (omega (arith, above))
            (λ n u o. out g i (suc l) n y (h.none n (omega arith) o)) p)
        go g i l e y z false v =
            let s : told_by r' ≡ told_by r = rw v at q in
            rw s (below-pass g (masks_in ms) (marked w) a i l (told_by r) m m' (omega (arith, above)) (λ n u o. not_there n u o (dec_lt m n))
            (inv.told g i l e y z))
          where
            not_there : (n : ℕ) → m ≤ n → n < m' → Dec (m < n) → ¬ EndsBy g (masks_in ms) (marked w) a i (suc l) n
            not_there n u o (yes d) p = out g i (suc l) n y (h.none n (omega arith) o) p
            not_there n u o (no d) p =
                let j : n ≡ m = omega arith in
                false→¬T may v (rw j at ((y n).0 p).1)

  pub adding-ends : {m : ℕ} {r : Ends} → Adding m r → length w < m → AddedAll ms w a k x before r
  adding-ends {m} {r} inv h g i l e within y z =
      let y' : EndsAre ms w a x g i (suc l) = subst (λ (b : ℕ). EndsAre ms w a x g i b) e y in
      rw e (below_end g (masks_in ms) (marked w) a i l (told_by r) m (λ n u p. let d = within n ((y' n).0 p).0 in absurd (omega arith))
      (inv.told g i l e y' z))
