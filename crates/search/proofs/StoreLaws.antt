-- A pair that is stored: its bit is set, its tag and, where there are several ends, its set are put. All other pairs stay as they were.
use mathlib.Core.Path.{◌≡◌, refl, ap, ◌∙◌}
use mathlib.Core.Logic.{◌⊎◌, inl, inr, ⊎_elim}
use mathlib.Core.Bool.{Bool}
use mathlib.Core.List.{List, [], ◌∷◌, ◌++◌}
use Prim.Native.Nat.{ℕ, ◌+◌, ◌≤◌, ◌<◌}
use native.Mathlib.Omega.{arith}
use native.Mathlib.Decide.{dec_lt}
use lib.Dec.{T, eqb, eqb→eq, eqb_refl}
use lib.ListN.{length, get_or, set, take, drop, length-set, length-take, length-append, get_or-append}
use lib.Seq.{sets-eq, get_or-set_same, get_or-set_other, get_or-append-add}
use Rattle.base.specs.Bits.{test_bit, set_bit}
use Rattle.base.proofs.Bits.{same?, test-set}
use Rattle.base.proofs.Booleans.{or-T, T-or-l, T-or-r}
use Rattle.positions.specs.inside.Positions.{set_words, five}
use Rattle.positions.specs.inside.Words.{set_at, put_at}
use Rattle.positions.proofs.WordLaws.{length-put, put_word}
use Rattle.filtering.specs.inside.Tags as ends
use Rattle.filtering.specs.inside.Settling.{Stored}
use Rattle.search.specs.declared.words.Tag.{Tag}
use Rattle.search.specs.declared.words.Tag.TheVariants.{None, One}
use Rattle.search.specs.inside.Words.{pair_at, tag_at, pair_set, waits_at, search_words, tag_from, tag_of, done_in, tag_in, state_in, Kept}
use Rattle.search.proofs.WordLaws.{pairs-differ, tag_below, set_below, tags-below, waits_end, done-inside, done-here, tag-kept}

-- ---- a set that was put is read again
word-put : (ws : List ℕ) (at : ℕ) (s : List ℕ) (k : ℕ) → at + set_words ≤ length ws → k < set_words → get_or (put_at ws at s) (at + k) 0 ≡ get_or (five s) k 0
unfolding put_at
word-put ws at s k h l =
    let e : length (take at ws) ≡ at = omega (arith, length-take at ws) in
    let front : List ℕ = take at ws ++ five s in
    let r : get_or (front ++ drop (at + length (five s)) ws) (length (take at ws) + k) 0 ≡ get_or (five s) k 0
    = get_or-append front (drop (at + length (five s)) ws) 0 (length (take at ws) + k) (omega (arith, length-append (take at ws) (five s)))
    ∙ get_or-append-add (take at ws) (five s) k 0 in
    rw (sets-eq (five s) ws at (omega arith)) (rw e at r)

five-whole : (s : List ℕ) → length s ≡ set_words → five s ≡ s
five-whole (a ∷ b ∷ c ∷ d ∷ e ∷ []) h = refl
five-whole [] h = absurd (omega arith)
five-whole (a ∷ []) h = absurd (omega arith)
five-whole (a ∷ b ∷ []) h = absurd (omega arith)
five-whole (a ∷ b ∷ c ∷ []) h = absurd (omega arith)
five-whole (a ∷ b ∷ c ∷ d ∷ []) h = absurd (omega arith)
five-whole (a ∷ b ∷ c ∷ d ∷ e ∷ f ∷ s) h = absurd (omega arith)

set-put : (ws : List ℕ) (at : ℕ) (s : List ℕ) → at + set_words ≤ length ws → length s ≡ set_words → set_at (put_at ws at s) at ≡ s
unfolding set_at
set-put ws at s h l =
    let z : at + 0 ≡ at = omega arith in
    let w0 : get_or (put_at ws at s) at 0 ≡ get_or s 0 0 = rw z at (word-put ws at s 0 h (omega arith)) in
    rw (
      w0,
      word-put ws at s 1 h (omega arith),
      word-put ws at s 2 h (omega arith),
      word-put ws at s 3 h (omega arith),
      word-put ws at s 4 h (omega arith),
    ) (five-whole s l)

-- ---- what storing leaves: no word has changed but the set of nonterminals at i, the pair's tag and its set
pub record Written (N n : ℕ) (ws : List ℕ) (a i : ℕ) (tag : Tag) (us : List ℕ) : Type 0 where
  pub long : length us ≡ length ws
  pub here : get_or us i 0 ≡ set_bit (get_or ws i 0) a
  pub tagged : tag_from (get_or us (tag_at N n a i) 0) ≡ tag
  pub other : (j : ℕ) → ¬ (j ≡ i) → ¬ (j ≡ tag_at N n a i) → (j < pair_set N n a i) ⊎ (pair_set N n a i + set_words ≤ j) → get_or us j 0 ≡ get_or ws j 0

module _ (N n a i : ℕ) (l : a < N) (k : i ≤ n) {ws us : List ℕ} {tag : Tag} (x : Written N n ws a i tag us) where
  written-kept : Kept (waits_at N n) ws us
  written-kept = record {
    long = x.long;
    word = λ j h. x.other j (λ e. omega arith) (λ e. omega (arith, tag_below N n a i l k, tags-below N n)) (inr (omega (arith, set_below N n a i l k)));
  }

  bits-other : (j : ℕ) → j ≤ n → ¬ (j ≡ i) → get_or us j 0 ≡ get_or ws j 0
  bits-other j h d = x.other j d (λ e. omega arith) (inl (omega arith))

  -- the tag of another pair is as it was
  tags-other : (b j : ℕ) → b < N → j ≤ n → ¬ ((b ≡ a) × (j ≡ i)) → tag_in N n us b j ≡ tag_in N n ws b j
  tags-other b j m h d = tag-kept N n ws us b j word rest
    where
      apart : ¬ (pair_at N b j ≡ pair_at N a i)
      apart e = d (pairs-differ N a i b j l m e)

      word : get_or us (tag_at N n b j) 0 ≡ get_or ws (tag_at N n b j) 0
      word =
          x.other (tag_at N n b j) (λ e. omega arith) (λ e. apart (omega arith)) (inl (omega (arith, tag_below N n b j m h)))

      side : (q : ℕ) → pair_set N n b j ≤ q → q < pair_set N n b j + set_words → Dec (pair_at N b j < pair_at N a i)
          → (q < pair_set N n a i) ⊎ (pair_set N n a i + set_words ≤ q)
      side q f g (yes c) = inl (omega arith)
      side q f g (no c) =
          let y : pair_at N a i < pair_at N b j = ⊎_elim (λ e. absurd (apart e)) (λ e. omega arith) (same? (pair_at N b j) (pair_at N a i)) in
          inr (omega arith)

      rest : (q : ℕ) → pair_set N n b j ≤ q → q < pair_set N n b j + set_words → get_or us q 0 ≡ get_or ws q 0
      rest q f g =
          x.other q (λ e. omega arith) (λ e. omega (arith, tag_below N n a i l k)) (side q f g (dec_lt (pair_at N b j) (pair_at N a i)))

  written-stored : {t : ends.Tag} → tag_of tag (set_at us (pair_set N n a i)) ≡ t → Stored (state_in N n ws) a i t (state_in N n us)
  unfolding tag_in
  written-stored {t} e = record { has = bit-here; new = rw x.tagged e; keeps = keeps; cases = cases }
    where
      bit-here : T (done_in N n us a i)
      bit-here = done-here N n us a i l k (rw (x.here, test-set) (T-or-r (test_bit (get_or ws i 0) a) (eqb a a) (eqb_refl a)))

      kept_here : (b : ℕ) → T (test_bit (get_or ws i 0) b) → T (test_bit (get_or us i 0) b)
      kept_here b u = rw (x.here, test-set) (T-or-l (test_bit (get_or ws i 0) b) (eqb b a) u)

      kept : (b j : ℕ) → j ≤ n → T (test_bit (get_or ws j 0) b) → (j ≡ i) ⊎ (j ≡ i → ⊥) → T (test_bit (get_or us j 0) b)
      kept b j h u (inl q) = rw q (kept_here b (rw q at u))
      kept b j h u (inr d) = rw (bits-other j h d) u

      keeps : (b j : ℕ) → T (done_in N n ws b j) → T (done_in N n us b j)
      keeps b j u = let d = done-inside N n ws b j u in done-here N n us b j d.0 d.1 (kept b j d.1 d.2 (same? j i))

      Was : ℕ → ℕ → Type 0
      Was b j = T (done_in N n ws b j) × (tag_in N n us b j ≡ tag_in N n ws b j)

      cases : (b j : ℕ) → T (done_in N n us b j) → ((b ≡ a) × (j ≡ i)) ⊎ Was b j
      cases b j u = go (same? j i) (same? b a)
        where
          d : (b < N) × (j ≤ n) × T (test_bit (get_or us j 0) b)
          d = done-inside N n us b j u

          go : (j ≡ i) ⊎ (j ≡ i → ⊥) → (b ≡ a) ⊎ (b ≡ a → ⊥) → ((b ≡ a) × (j ≡ i)) ⊎ Was b j
          go (inl p) (inl q) = inl (q, p)
          go (inl p) (inr m) =
              let y : T (test_bit (get_or us i 0) b) = rw p at d.2 in
              let z : T (test_bit (set_bit (get_or ws i 0) a) b) = rw x.here at y in
              let o = or-T (test_bit (get_or ws i 0) b) (eqb b a) (rw test-set at z) in
              let v : T (test_bit (get_or ws i 0) b) = ⊎_elim (λ u. u) (λ u. absurd (m (eqb→eq b a u))) o in
              inr (done-here N n ws b j d.0 d.1 (rw p v), tags-other b j d.0 d.1 (λ s. m s.0))
          go (inr m) r =
              inr (done-here N n ws b j d.0 d.1 (rw (bits-other j d.1 m) at d.2), tags-other b j d.0 d.1 (λ s. m s.1))

-- ---- as the code writes
module _ (N n a i : ℕ) (l : a < N) (k : i ≤ n) (ws : List ℕ) (room : search_words N n ≤ length ws) {tag : Tag} where
  -- the tag, then the bit
  written-tag : (v y : ℕ) → tag_from v ≡ tag → y ≡ set_bit (get_or (set ws (tag_at N n a i) v) i 0) a
      → Written N n ws a i tag (set (set ws (tag_at N n a i) v) i y)
  written-tag v y e f = record {
    long = length-set (set ws (tag_at N n a i) v) i y ∙ length-set ws (tag_at N n a i) v;
    here = get_or-set_same (set ws (tag_at N n a i) v) i y 0 (rw length-set (omega (arith, waits_end N n, tags-below N n)))
        ∙ (f ∙ ap (λ (z : ℕ). set_bit z a) (get_or-set_other ws (tag_at N n a i) i v 0 (λ q. omega arith)));
    tagged = rw (
      get_or-set_other (set ws (tag_at N n a i) v) i (tag_at N n a i) y 0 (λ q. omega arith),
      get_or-set_same ws (tag_at N n a i) v 0 (omega (arith, tag_below N n a i l k, waits_end N n, tags-below N n)),
    ) e;
    other = λ j p q r. get_or-set_other (set ws (tag_at N n a i) v) i j y 0 p ∙ get_or-set_other ws (tag_at N n a i) j v 0 q;
  }

  -- then the set
  written-set : {us : List ℕ} (s : List ℕ) → Written N n ws a i tag us → Written N n ws a i tag (put_at us (pair_set N n a i) s)
  written-set {us} s x = record {
    long = length-put us (pair_set N n a i) s ∙ x.long;
    here = put_word us (pair_set N n a i) i s (inl (omega arith)) ∙ x.here;
    tagged = rw (put_word us (pair_set N n a i) (tag_at N n a i) s (inl (omega (arith, tag_below N n a i l k)))) x.tagged;
    other = λ j p q r. put_word us (pair_set N n a i) j s r ∙ x.other j p q r;
  }

  set_there : {us : List ℕ} (s : List ℕ) → Written N n ws a i tag us → length s ≡ set_words → set_at (put_at us (pair_set N n a i) s) (pair_set N n a i) ≡ s
  set_there {us} s x h = set-put us (pair_set N n a i) s (omega (arith, x.long, set_below N n a i l k, waits_end N n)) h

-- ---- the ways out
pub same_none : {tag : Tag} → tag ≡ None → (r s : List ℕ) → tag_of tag r ≡ tag_of tag s
same_none e r s = rw e

pub same-one : {tag : Tag} {m b : ℕ} {more : Bool} → tag ≡ One m b more → (r s : List ℕ) → tag_of tag r ≡ tag_of tag s
same-one e r s = rw e

-- what `store` leaves of words ws for a tag and a set s
abbrev Left : ℕ → ℕ → ℕ → ℕ → Tag → List ℕ → List ℕ → List ℕ → Type 0
Left N n a i tag ws s us = Kept (waits_at N n) ws us × Stored (state_in N n ws) a i (tag_of tag s) (state_in N n us)

module _ (N n a i : ℕ) (l : a < N) (k : i ≤ n) (ws : List ℕ) (room : search_words N n ≤ length ws) {tag : Tag} {p y : ℕ} (v : ℕ) (at : p ≡ tag_at N n a i)
    (e : tag_from v ≡ tag) (f : y ≡ set_bit (get_or (set ws p v) i 0) a) where
  both : Written N n ws a i tag (set (set ws p v) i y)
  both = rw at (written-tag N n a i l k ws room v y e (rw at at f))

  -- no set is put: the tag says it all
  pub store-plain : (s : List ℕ) → ((r s : List ℕ) → tag_of tag r ≡ tag_of tag s) → Left N n a i tag ws s (set (set ws p v) i y)
  store-plain s g = (written-kept N n a i l k both, written-stored N n a i l k both (g _ s))

  pub store-several : {q : ℕ} (s : List ℕ) {us : List ℕ} → length s ≡ set_words → q ≡ pair_set N n a i → us ≡ put_at (set (set ws p v) i y) q s
      → Left N n a i tag ws s us
  store-several {q} s {us} h z u = (written-kept N n a i l k all, written-stored N n a i l k all (ap (tag_of tag) there))
    where
      put : us ≡ put_at (set (set ws p v) i y) (pair_set N n a i) s
      put = u ∙ ap (λ (x : ℕ). put_at (set (set ws p v) i y) x s) z

      all : Written N n ws a i tag us
      all = rw put (written-set N n a i l k ws room s both)

      there : set_at us (pair_set N n a i) ≡ s
      there = rw put (set_there N n a i l k ws room s both h)
