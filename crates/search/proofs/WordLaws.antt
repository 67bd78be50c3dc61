-- Where the words of the search stand: the tags, the sets and the pairs that wait, each apart from the others. Words that agree below the pairs that wait
-- say the same.
use mathlib.Core.Path.{◌≡◌, ap}
use mathlib.Core.Bool.{◌&&◌}
use mathlib.Core.List.{List}
use Prim.Native.Nat.{ℕ, suc, ◌+◌, ◌*◌, ◌≤◌, ◌<◌}
use native.Mathlib.Nat.{mul-le-mul, mul-le-mul_right, suc-mul}
use native.Mathlib.Omega.{arith}
use native.Mathlib.Decide.{dec_lt}
use lib.Dec.{T, leb, ltb, leb→le, ltb→lt, le→leb, lt→ltb}
use lib.ListN.{length, get_or, set}
use lib.Seq.{get_or-set_other}
use Rattle.base.specs.Bits.{test_bit}
use Rattle.base.proofs.Booleans.{same, and_T, T_and}
use Rattle.positions.specs.inside.Positions.{set_words}
use Rattle.positions.specs.inside.Words.{set_at}
use Rattle.grammar.specs.Limits.{max_nonterminals}
use Rattle.grammar.specs.inside.Tables.{grammar_in, nonterminals_in}
use Rattle.derivation.specs.Runs.{marked}
use Rattle.derivation.specs.Space.{max_tokens}
use Rattle.first_follow.specs.inside.Words.{masks_in}
use Rattle.filtering.specs.inside.Cover.{Covered}
use Rattle.filtering.proofs.WalkLaws.{covered_more}
use Rattle.search.specs.inside.Words.{pair_at, tag_at, pair_set, waits_at, search_words, done_in, tag_in}
use Rattle.search.specs.inside.Places.{Small, PairOf}
use Rattle.search.specs.inside.Searching.{Holds, state_of}
use Rattle.search.specs.declared.words.Size.{Size}
use Rattle.search.specs.declared.words.Pair.{Pair}

-- ---- numbers of pairs
pair-below : (N n a i : ℕ) → a < N → i ≤ n → pair_at N a i < suc n * N
pair-below N n a i l k = let m : i * N ≤ n * N = mul-le-mul_right N k in omega (arith, suc-mul n N)

-- there are few of them
pub pairs-few : {s : Size} → Small s → suc s.n * s.nonterminals ≤ 4128
pairs-few {s} h = let l : suc s.n ≤ suc max_tokens = omega (arith, h.tokens) in let m = mul-le-mul l h.names in omega arith

pub pair_small : {s : Size} {p : Pair} → PairOf s p → pair_at s.nonterminals p.nonterminal p.position < 4128
pair_small {s} {p} h = omega (arith, pair-below s.nonterminals s.n p.nonterminal p.position h.nonterminal h.position, pairs-few h.small)

-- every pair has a number of its own
pub pairs-differ : (N a i b j : ℕ) → a < N → b < N → pair_at N b j ≡ pair_at N a i → (b ≡ a) × (j ≡ i)
pairs-differ N a i b j l m e = go (dec_lt j i) (dec_lt i j)
  where
    go : Dec (j < i) → Dec (i < j) → (b ≡ a) × (j ≡ i)
    go (yes h) d = let r : suc j * N ≤ i * N = mul-le-mul_right N h in absurd (omega (arith, suc-mul j N))
    go (no h) (yes k) = let r : suc i * N ≤ j * N = mul-le-mul_right N k in absurd (omega (arith, suc-mul i N))
    go (no h) (no k) = let q : j ≡ i = omega arith in (omega (arith, ap (λ (x : ℕ). x * N) q), q)

-- ---- where the words stand
module _ (N n a i : ℕ) (l : a < N) (k : i ≤ n) where
  pub tag_below : tag_at N n a i < suc n * suc N
  tag_below = omega (arith, pair-below N n a i l k)

  pub set_below : pair_set N n a i + set_words ≤ waits_at N n
  set_below = omega (arith, pair-below N n a i l k)

pub tags-below : (N n : ℕ) → suc n * suc N ≤ waits_at N n
tags-below N n = omega arith

pub tag-inside : {s : Size} {p : Pair} → PairOf s p
    → tag_at s.nonterminals s.n p.nonterminal p.position < search_words s.nonterminals s.n
tag-inside {s} {p} h = omega (arith, pair-below s.nonterminals s.n p.nonterminal p.position h.nonterminal h.position)

pub set-in : {s : Size} {p : Pair} → PairOf s p
    → pair_set s.nonterminals s.n p.nonterminal p.position + set_words ≤ search_words s.nonterminals s.n
set-in {s} {p} h = omega (arith, pair-below s.nonterminals s.n p.nonterminal p.position h.nonterminal h.position)

pub waits_end : (N n : ℕ) → waits_at N n ≤ search_words N n
waits_end N n = omega arith

-- ---- what words say
-- a pair that is worked out is one of the grammar and the note
pub done-inside : (N n : ℕ) (ws : List ℕ) (a i : ℕ) → T (done_in N n ws a i) → (a < N) × (i ≤ n) × T (test_bit (get_or ws i 0) a)
unfolding done_in
done-inside N n ws a i t =
    let s = and_T (ltb a N && leb i n) (test_bit (get_or ws i 0) a) t in
    let r = and_T (ltb a N) (leb i n) s.0 in
    (ltb→lt a N r.0, leb→le i n r.1, s.1)

pub done-here : (N n : ℕ) (ws : List ℕ) (a i : ℕ) → a < N → i ≤ n → T (test_bit (get_or ws i 0) a) → T (done_in N n ws a i)
unfolding done_in
done-here N n ws a i l k t =
    T_and (ltb a N && leb i n) (test_bit (get_or ws i 0) a) (T_and (ltb a N) (leb i n) (lt→ltb a N l) (le→leb i n k)) t

set_same : (ws us : List ℕ) (at : ℕ) → ((j : ℕ) → at ≤ j → j < at + set_words → get_or us j 0 ≡ get_or ws j 0) → set_at us at ≡ set_at ws at
unfolding set_at
set_same ws us at h = rw (
  h at (omega arith) (omega arith),
  h (at + 1) (omega arith) (omega arith),
  h (at + 2) (omega arith) (omega arith),
  h (at + 3) (omega arith) (omega arith),
  h (at + 4) (omega arith) (omega arith),
)

-- a pair's tag is as it was if its words are
pub tag-kept : (N n : ℕ) (ws us : List ℕ) (a i : ℕ) → get_or us (tag_at N n a i) 0 ≡ get_or ws (tag_at N n a i) 0
    → ((j : ℕ) → pair_set N n a i ≤ j → j < pair_set N n a i + set_words → get_or us j 0 ≡ get_or ws j 0) → tag_in N n us a i ≡ tag_in N n ws a i
unfolding tag_in
tag-kept N n ws us a i e h = rw (e, set_same ws us (pair_set N n a i) h)

-- ---- words that agree below the pairs that wait
pub record Agree (N n : ℕ) (ws us : List ℕ) : Type 0 where
  pub word : (j : ℕ) → j < waits_at N n → get_or us j 0 ≡ get_or ws j 0

module _ (N n : ℕ) {ws us : List ℕ} (h : Agree N n ws us) where
  done-same : (a i : ℕ) → done_in N n us a i ≡ done_in N n ws a i
  done-same a i = same (done_in N n us a i) (done_in N n ws a i) to from
    where
      word : i ≤ n → get_or us i 0 ≡ get_or ws i 0
      word k = h.word i (omega arith)

      to : T (done_in N n us a i) → T (done_in N n ws a i)
      to t = let d = done-inside N n us a i t in done-here N n ws a i d.0 d.1 (rw (word d.1) at d.2)

      from : T (done_in N n ws a i) → T (done_in N n us a i)
      from t = let d = done-inside N n ws a i t in done-here N n us a i d.0 d.1 (rw (word d.1) d.2)

  tag_same : (a i : ℕ) → a < N → i ≤ n → tag_in N n us a i ≡ tag_in N n ws a i
  tag_same a i l k =
      let b = set_below N n a i l k in
      tag-kept N n ws us a i (h.word (tag_at N n a i) (omega (arith, tag_below N n a i l k, tags-below N n))) (λ j f g. h.word j (omega arith))

-- a pair that waits is put: every pair is worked out or not as it was, with the same tag
pub waits-agree : (N n k x : ℕ) (ws : List ℕ) → Agree N n ws (set ws (waits_at N n + k) x)
waits-agree N n k x ws = record { word = λ j l. get_or-set_other ws (waits_at N n + k) j x 0 (λ e. omega arith) }

module _ (t w ms : List ℕ) {ws us : List ℕ} (h : Agree (nonterminals_in t) (length w) ws us) where
  pub holds_same : Holds t w ms ws → Holds t w ms us
  holds_same x a i d =
      let r : T ((state_of t w ws).done a i) = rw (done-same (nonterminals_in t) (length w) h a i) at d in
      let b = done-inside (nonterminals_in t) (length w) ws a i r in
      rw (tag_same (nonterminals_in t) (length w) h a i b.0 b.1) (x a i r)

  pub covered_same : {high : ℕ} → Covered (grammar_in t) (masks_in ms) (marked w) (state_of t w ws).done high
      → Covered (grammar_in t) (masks_in ms) (marked w) (state_of t w us).done high
  covered_same x a i b f d e =
      covered_more (λ c j r. rw (done-same (nonterminals_in t) (length w) h c j) r) (omega arith)
      (x a i b f (rw (done-same (nonterminals_in t) (length w) h a i) at d) e)
