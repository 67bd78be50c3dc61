-- The index of a list's words: a word is sought along its bucket's chain, and a word more is put in front of it.
use mathlib.Core.Path.{◌≡◌, refl, sym, ap, ◌∙◌}
use mathlib.Core.Bool.{Bool, true, false}
use mathlib.Core.List.{List, [], ◌∷◌, ◌++◌, append-nil}
use Prim.Native.Nat.{ℕ, zero, suc, ◌+◌, ◌-◌, ◌≤◌, ◌<◌}
use native.Mathlib.Numerals.{add-one}
use native.Mathlib.Omega.{arith}
use native.Mathlib.Nat.{eq-or-lt_of_le}
use mathlib.Core.Logic.{◌⊎◌, inl, inr, ⊎_elim}
use mathlib.Core.HLevel.{⊥_prop}
use Rattle.std.proofs.Math.Bridge.{le_prop}
use Rattle.std.proofs.Math.Logic.{∥∥₁_elim, ∥∥₁_map}
use lib.ListN.{length, get_or, take, drop, set, replicate, length-append, length-set, length-drop, length-replicate, get_or-replicate}
use lib.Seq.{get_or-set_same, get_or-set_other}
use Rattle.base.proofs.Bits.{same?}
use Rattle.base.proofs.Booleans.{true→T}
use Rattle.base.specs.Rounds.{any_of}
use Rattle.splitter.specs.Classes.{word_byte?}
use Rattle.splitter.specs.Listing.{max_listed, word_run, same_bytes?, among?}
use Rattle.splitter.specs.Items.{plain_word, first_listed, kind_from, word_kind}
use Rattle.splitter.specs.inside.Index.{buckets, start_count, link_count, bucket_from, run_of, word_at, words_at, OnChain, here, behind, Indexed, New, Added}
use Rattle.splitter.specs.declared.runs.Run.{Run}
use Rattle.splitter.proofs.RunLaws.{run_is, prefix-take, prefix-le, bucket-lt}
use Rattle.splitter.proofs.WordLaws.{same-eq, same_refl, among-snoc, kind-out, kind-in, kind-most}

-- ---- the run that a word is
module _ (s : List ℕ) (from : ℕ) (r : Run) (e : r ≡ run_of s from) (l : from ≤ length s) where
  ends : r.end ≡ from + length (word_run (drop from s))
  ends = rw (e, run_is s from)

  pub run-bucket : r.bucket ≡ bucket_from 0 (word_run (drop from s))
  run-bucket = rw (e, run_is s from)

  pub run-bucket-lt : r.bucket < buckets
  run-bucket-lt = rw run-bucket (bucket-lt 0 (word_run (drop from s)) (omega arith))

  pub run-after : from ≤ r.end
  run-after = rw ends (omega arith)

  pub run_inside : r.end - from ≤ length s - from
  unfolding word_run
  run_inside = omega (arith, ends, prefix-le word_byte? (drop from s), length-drop from s)

  pub run-word : take (r.end - from) (drop from s) ≡ word_run (drop from s)
  unfolding word_run
  run-word =
      let z : r.end - from ≡ length (word_run (drop from s)) = omega (arith, ends) in
      rw z (prefix-take word_byte? (drop from s))

-- ---- chains
pub chain-some : {links : List ℕ} {n k p : ℕ} → OnChain links n k p → 0 < p
chain-some (here l) = omega arith
chain-some (behind j l x) = omega arith

chain_next : {links : List ℕ} {n k p : ℕ} → OnChain links n k p → (j : ℕ) → p ≡ suc j → (k ≡ j → ⊥) → OnChain links n k (get_or links j 0)
chain_next (here l) j e m = absurd (m (omega arith))
chain_next {links = links} (behind i l x) j e m = let z : i ≡ j = omega arith in rw z at x

-- other words of the row do not matter
chain-kept : {links more : List ℕ} {n m k p : ℕ} → n ≤ m → ((j : ℕ) → j < n → get_or more j 0 ≡ get_or links j 0) → OnChain links n k p → OnChain more m k p
chain-kept h f (here l) = here (omega arith)
chain-kept {more = more} {m = m} {k = k} h f (behind j l x) =
    behind j (omega arith) (rw (f j l) (chain-kept h f x))

-- whether word k is on the chain from p on can be told where the links lead back
on-chain? : (links : List ℕ) (n k fuel p : ℕ) → ((j : ℕ) → j < n → get_or links j 0 ≤ j) → k < n → p ≤ n → p ≤ fuel
    → OnChain links n k p ⊎ (OnChain links n k p → ⊥)
on-chain? links n k fuel zero b l h m = inr (λ x. (let z = chain-some x in omega arith))
on-chain? links n k zero (suc j) b l h m = absurd (omega arith)
on-chain? links n k (suc fuel) (suc j) b l h m =
    let t = b j (omega arith) in
    go (same? k j) (on-chain? links n k fuel (get_or links j 0) b l (omega arith) (omega arith))
  where
    go : (k ≡ j) ⊎ (k ≡ j → ⊥) → OnChain links n k (get_or links j 0) ⊎ (OnChain links n k (get_or links j 0) → ⊥)
        → OnChain links n k (suc j) ⊎ (OnChain links n k (suc j) → ⊥)
    go (inl e) r = inl (rw (← e) (here l))
    go (inr e) (inl x) = inl (behind j (omega arith) x)
    go (inr e) (inr f) = inr (λ x. f (chain_next x j refl e))

-- a chain leads back, so that whether a word is on it can be told: the truncated fact gives the chain
pub chained-told : (list starts links : List ℕ) (n : ℕ) → Indexed list starts links n → (k : ℕ) → k < n
    → OnChain links n k (get_or links (max_listed + bucket_from 0 (word_at list starts k)) 0)
chained-told list starts links n x k l =
    let c = bucket_from 0 (word_at list starts k) in
    let h = x.heads c (bucket-lt 0 (word_at list starts k) (omega arith)) in
    ⊎_elim (λ y. y) (λ f. absurd (∥∥₁_elim (x.chained k l) ⊥_prop f)) (on-chain? links n k n (get_or links (max_listed + c) 0) x.back l h h)

-- ---- a word is sought
-- the words that may be it are on the chain from p on
abbrev pub Seek : List ℕ → List ℕ → List ℕ → ℕ → List ℕ → ℕ → Type 0
Seek list starts links n w p = (p ≤ n) × ((k : ℕ) → k < n → same_bytes? (word_at list starts k) w ≡ true → ∥ OnChain links n k p ∥₁)

pub words-length : (list starts : List ℕ) (n : ℕ) → length (words_at list starts n) ≡ n
unfolding words_at
words-length list starts zero = refl
words-length list starts (suc n) =
    length-append (words_at list starts n) (word_at list starts n ∷ []) ∙ (let h = words-length list starts n in omega arith)

not-true : (b : Bool) → (b ≡ true → ⊥) → b ≡ false
not-true true f = absurd (f refl)
not-true false f = refl

-- none of the first n words is u
none_of : (list starts u : List ℕ) (n : ℕ) → ((k : ℕ) → k < n → same_bytes? (word_at list starts k) u ≡ false) → among? (words_at list starts n) u ≡ false
unfolding words_at among? any_of
none_of list starts u zero f = refl
none_of list starts u (suc n) f =
    rw (among-snoc (words_at list starts n) (word_at list starts n) u, none_of list starts u n (λ k l. f k (omega arith)), f n (omega arith))

-- word j is u, and none before it is
kind_at : (list starts u : List ℕ) (n : ℕ) → ((k : ℕ) → k < n → among? (words_at list starts k) (word_at list starts k) ≡ false) → (j : ℕ) → j < n
    → word_at list starts j ≡ u → (among? (words_at list starts n) u ≡ true) × (kind_from first_listed (words_at list starts n) u ≡ first_listed + j)
unfolding words_at kind_from
kind_at list starts u zero f j l e = absurd (omega arith)
kind_at list starts u (suc n) f j l e = go (eq-or-lt_of_le {n = j} {m = n} (omega arith)) (λ h. kind_at list starts u n (λ k m. f k (omega arith)) j h e)
  where
    go : (j ≡ n) ⊎ (j < n) → (j < n → (among? (words_at list starts n) u ≡ true) × (kind_from first_listed (words_at list starts n) u ≡ first_listed + j))
        → (among? (words_at list starts (suc n)) u ≡ true) × (kind_from first_listed (words_at list starts (suc n)) u ≡ first_listed + j)
    go (inl q) r =
        let w : (word_at list starts n) ≡ u = rw q at e in
        let z : among? (words_at list starts n) u ≡ false = rw w at (f n (omega arith)) in
        let t : same_bytes? (word_at list starts n) u ≡ true = rw w (same_refl u) in (
          rw (among-snoc (words_at list starts n) (word_at list starts n) u, z, t),
          rw (kind-out first_listed (words_at list starts n) ((word_at list starts n) ∷ []) u z, t, kind_from, words-length list starts n, q),
        )
    go (inr h) r =
        let t = r h in (
          rw (among-snoc (words_at list starts n) (word_at list starts n) u, t.0),
          kind-in first_listed (words_at list starts n) ((word_at list starts n) ∷ []) u t.0 ∙ t.1,
        )

module _ (list starts links : List ℕ) (n : ℕ) (x : Indexed list starts links n) where
  -- the next word of the chain stands in the list
  module _ {p k : ℕ} (h : p ≤ n) (l : 0 < p) (e : k ≡ p - 1) where
    is-next : p ≡ suc k
    is-next = omega arith

    pub next-order : get_or starts k 0 < get_or starts p 0
    next-order = rw is-next (x.in_order k (omega arith))

    pub next-inside : get_or starts p 0 ≤ suc (length list)
    next-inside = rw is-next (x.inside k (omega arith))

    pub seek-less : {p' : ℕ} → p' ≡ get_or links k 0 → p' < p
    seek-less u = let b = x.back k (omega arith) in omega arith

module _ (list starts links : List ℕ) (n : ℕ) (x : Indexed list starts links n) (w : List ℕ) where
  pub seek-begins : {b p : ℕ} → b ≡ bucket_from 0 w → p ≡ get_or links (max_listed + b) 0 → Seek list starts links n w p
  seek-begins {b} {p} e q = (
    rw (q, e) (x.heads (bucket_from 0 w) (bucket-lt 0 w (omega arith))),
    λ k l t.
        let z : word_at list starts k ≡ w = same-eq (word_at list starts k) w (true→T (same_bytes? (word_at list starts k) w) t) in
        rw (q, e) (rw z at (x.chained k l)),
  )

  -- nothing is left of the chain
  pub seek-none : {p : ℕ} → Seek list starts links n w p → p ≤ 0 → plain_word ≡ word_kind (words_at list starts n) w
  unfolding word_kind kind_from
  seek-none {p} y l =
      let z : among? (words_at list starts n) w ≡ false =
      none_of list starts w n (λ k h. not-true (same_bytes? (word_at list starts k) w)
      (λ t. (let q : 0 < p = ∥∥₁_elim (y.1 k h t) le_prop chain-some in omega arith))) in
      sym (rw (append-nil (words_at list starts n)) at (kind-out first_listed (words_at list starts n) [] w z))

  -- the chain's next word is asked
  module _ {p k : ℕ} (y : Seek list starts links n w p) (l : 0 < p) (e : k ≡ p - 1) {r : Bool} (q : r ≡ same_bytes? (word_at list starts k) w) where
    next-is : p ≡ suc k
    next-is = omega arith

    pub seek_found : r ≡ true → first_listed + k ≡ word_kind (words_at list starts n) w
    unfolding word_kind
    seek_found t =
        let z : word_at list starts k ≡ w = same-eq (word_at list starts k) w (true→T (same_bytes? (word_at list starts k) w) (sym q ∙ t)) in
        sym (kind_at list starts w n x.distinct k (let h = y.0 in omega arith) z).1

    pub seek-on : r ≡ false → {p' : ℕ} → p' ≡ get_or links k 0 → Seek list starts links n w p'
    seek-on t {p'} u = (
      (let h = y.0 in let b = x.back k (omega arith) in omega arith),
      λ j h m.
          let z : j ≡ k → ⊥ = λ c. absurd (true→T false (sym t ∙ q ∙ ap (λ (i : ℕ). same_bytes? (word_at list starts i) w) (sym c) ∙ m)) in
          rw u (∥∥₁_map (y.1 j h m) (λ d. chain_next d k next-is z)),
    )

-- ---- a word more
module _ (list starts links : List ℕ) (n at e : ℕ) (x : Indexed list starts links n) (few : n < max_listed) (s : get_or starts n 0 ≡ at)
    (l : at ≤ e) (m : e ≤ length list) (u : List ℕ) (q : take (e - at) (drop at list) ≡ u) (b : ℕ) (h : b ≡ bucket_from 0 u)
    (a : among? (words_at list starts n) u ≡ false) where
  abbrev starts' : List ℕ
  starts' = set starts (suc n) (suc e)

  abbrev links' : List ℕ
  links' = set (set links n (get_or links (max_listed + b) 0)) (max_listed + b) (suc n)

  b_lt : b < buckets
  b_lt = rw h (bucket-lt 0 u (omega arith))

  start-old : (k : ℕ) → k ≤ n → get_or starts' k 0 ≡ get_or starts k 0
  start-old k i = get_or-set_other starts (suc n) k (suc e) 0 (λ c. (omega arith))

  start-new : get_or starts' (suc n) 0 ≡ suc e
  start-new = get_or-set_same starts (suc n) (suc e) 0 (let t = x.starts-long in omega arith)

  word-old : (k : ℕ) → k < n → word_at list starts' k ≡ word_at list starts k
  unfolding word_at
  word-old k i = rw (start-old k (omega arith), start-old (suc k) (omega arith))

  word-new : word_at list starts' n ≡ u
  unfolding word_at
  word-new = rw (start-old n (omega arith), start-new, s) (let z : suc e - suc at ≡ e - at = omega arith in rw z q)

  words-old : (k : ℕ) → k ≤ n → words_at list starts' k ≡ words_at list starts k
  unfolding words_at
  words-old zero i = refl
  words-old (suc k) i = rw (words-old k (omega arith), word-old k (omega arith))

  pub words-new : words_at list starts' (suc n) ≡ words_at list starts n ++ (u ∷ [])
  unfolding words_at
  words-new = rw (words-old n (omega arith), word-new)

  link-old : (k : ℕ) → k < n → get_or links' k 0 ≡ get_or links k 0
  link-old k i =
      get_or-set_other (set links n (get_or links (max_listed + b) 0)) (max_listed + b) k (suc n) 0 (λ c. (omega arith))
      ∙ get_or-set_other links n k (get_or links (max_listed + b) 0) 0 (λ c. (omega arith))

  link-new : get_or links' n 0 ≡ get_or links (max_listed + b) 0
  link-new =
      get_or-set_other (set links n (get_or links (max_listed + b) 0)) (max_listed + b) n (suc n) 0 (λ c. (omega arith))
      ∙ get_or-set_same links n (get_or links (max_listed + b) 0) 0 (let t = x.links-long in omega arith)

  head-new : get_or links' (max_listed + b) 0 ≡ suc n
  head-new =
      get_or-set_same (set links n (get_or links (max_listed + b) 0)) (max_listed + b) (suc n) 0
      (let t = x.links-long in let v = b_lt in omega (arith, length-set links n (get_or links (max_listed + b) 0)))

  head-old : (c : ℕ) → (c ≡ b → ⊥) → get_or links' (max_listed + c) 0 ≡ get_or links (max_listed + c) 0
  head-old c i =
      get_or-set_other (set links n (get_or links (max_listed + b) 0)) (max_listed + b) (max_listed + c) (suc n) 0 (λ w. i (omega arith))
      ∙ get_or-set_other links n (max_listed + c) (get_or links (max_listed + b) 0) 0 (λ w. (omega arith))

  -- a word that was on the chain of bucket c is on it still
  on-still : (k c : ℕ) → (c ≡ b) ⊎ (c ≡ b → ⊥) → ∥ OnChain links n k (get_or links (max_listed + c) 0) ∥₁
      → ∥ OnChain links' (suc n) k (get_or links' (max_listed + c) 0) ∥₁
  on-still k c (inl w) y =
      let v : ∥ OnChain links n k (get_or links (max_listed + b) 0) ∥₁ = rw w at y in
      let z : ∥ OnChain links' (suc n) k (get_or links' n 0) ∥₁ = rw link-new (∥∥₁_map v (chain-kept (omega arith) link-old)) in
      rw (w, head-new) (∥∥₁_map z (behind n (omega arith)))
  on-still k c (inr w) y = rw (head-old c w) (∥∥₁_map y (chain-kept (omega arith) link-old))

  head-le : (c : ℕ) → c < buckets → (c ≡ b) ⊎ (c ≡ b → ⊥) → get_or links' (max_listed + c) 0 ≤ suc n
  head-le c i (inl w) = rw (w, head-new) (omega arith)
  head-le c i (inr w) = rw (head-old c w) (let t = x.heads c i in omega arith)

  up_to : (P : ℕ → Type 0) → ((k : ℕ) → k < n → P k) → P n → (k : ℕ) → k < suc n → P k
  up_to P f p k i = go (eq-or-lt_of_le {n = k} {m = n} (omega arith))
    where
      go : (k ≡ n) ⊎ (k < n) → P k
      go (inl w) = rw w p
      go (inr w) = f k w

  pub indexed-more : Indexed list starts' links' (suc n)
  indexed-more = record {
    few = omega arith;
    starts-long = length-set starts (suc n) (suc e) ∙ x.starts-long;
    links-long =
        length-set (set links n (get_or links (max_listed + b) 0)) (max_listed + b) (suc n)
        ∙ length-set links n (get_or links (max_listed + b) 0)
        ∙ x.links-long;
    in_order =
        up_to (λ k. get_or starts' k 0 < get_or starts' (suc k) 0) (λ k i. rw (start-old k (omega arith), start-old (suc k) (omega arith)) (x.in_order k i))
        (rw (start-old n (omega arith), start-new, s) (omega arith));
    inside =
        up_to (λ k. get_or starts' (suc k) 0 ≤ suc (length list)) (λ k i. rw (start-old (suc k) (omega arith)) (x.inside k i)) (rw start-new (omega arith));
    back =
        up_to (λ k. get_or links' k 0 ≤ k) (λ k i. rw (link-old k i) (x.back k i)) (rw link-new (x.heads b b_lt));
    heads = λ c i. head-le c i (same? c b);
    chained =
        up_to (λ k. ∥ OnChain links' (suc n) k (get_or links' (max_listed + bucket_from 0 (word_at list starts' k)) 0) ∥₁)
        (λ k i.
        rw (word-old k i)
        (on-still k (bucket_from 0 (word_at list starts k)) (same? (bucket_from 0 (word_at list starts k)) b) (x.chained k i)))
        (rw (word-new, ← h, head-new) (let x : OnChain links' (suc n) n (suc n) = here (omega arith) in ∣ x ∣₁));
    distinct =
        up_to (λ k. among? (words_at list starts' k) (word_at list starts' k) ≡ false)
        (λ k i. rw (words-old k (omega arith), word-old k i) (x.distinct k i)) (rw (words-old n (omega arith), word-new) a);
  }

-- the index of no words
pub indexed-none : (list starts links : List ℕ) → starts ≡ replicate start_count 0 → links ≡ replicate link_count 0 → Indexed list starts links 0
indexed-none list starts links e q = record {
  few = omega arith;
  starts-long = rw e (length-replicate {A = ℕ} start_count 0);
  links-long = rw q (length-replicate {A = ℕ} link_count 0);
  in_order = λ k i. absurd (omega arith);
  inside = λ k i. absurd (omega arith);
  back = λ k i. absurd (omega arith);
  heads = λ c i. rw (q, get_or-replicate {A = ℕ} link_count (max_listed + c) 0 0 (omega arith)) (omega arith);
  chained = λ k i. absurd (omega arith);
  distinct = λ k i. absurd (omega arith);
}

-- what `add` leaves
pub added : (list starts links : List ℕ) (n at : ℕ) (r : Run) → Indexed list starts links n → New list starts n at → r ≡ run_of list at → {v : ℕ}
    → v ≡ n + 1 → Added list starts (set starts (n + 1) (r.end + 1)) (set (set links n (get_or links (max_listed + r.bucket) 0)) (max_listed + r.bucket) v)
    n at r.end
added list starts links n at r x y e {v} q =
    let u = word_run (drop at list) in
    let l = run-after list at r e y.begins in
    let m : r.end ≤ length list = omega (arith, run_inside list at r e y.begins, y.begins) in
    let w = run-word list at r e y.begins in
    let h = run-bucket list at r e y.begins in
    rw (q, add-one n, add-one r.end) (record {
      indexed = indexed-more list starts links n at r.end x y.few y.start l m u w r.bucket h y.fresh;
      words = words-new list starts links n at r.end x y.few y.start l m u w r.bucket h y.fresh;
      next = start-new list starts links n at r.end x y.few y.start l m u w r.bucket h y.fresh;
    })

-- the kind of a word is at most that of the last word
pub word-kind-most : (list starts : List ℕ) (n : ℕ) (u : List ℕ) → word_kind (words_at list starts n) u < first_listed + n
unfolding word_kind
word-kind-most list starts n u = omega (arith, kind-most first_listed (words_at list starts n) u (omega arith), words-length list starts n)
