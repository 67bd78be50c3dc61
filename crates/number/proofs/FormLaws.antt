-- `number_at` gives 1 exactly where the bytes end before the number does, 2 exactly where the number is not written as it must be, and a number exactly where
-- its shortest form stands.
use mathlib.Core.Path.{◌≡◌, refl, sym, ap, ◌∙◌}
use mathlib.Core.Logic.{◌↔◌, ◌⊎◌, inl, inr}
use mathlib.Core.List.{List, [], ◌∷◌, ◌++◌}
use Prim.Native.Nat.{ℕ, suc, ◌+◌, ◌*◌, ◌/◌, ◌%◌, ◌≤◌, ◌<◌}
use native.Mathlib.Omega.{arith}
use native.Mathlib.Decide.{dec_le, dec_lt}
use lib.ListN.{length, get_or, drop, take, length-append, length-drop, take-append-drop}
use lib.Seq.{drop-cons, drop-drop, get_or-drop, length-take-le}
use Rattle.base.proofs.Booleans.{clash}
use Rattle.number.specs.Types.{Cursor, Read, Refusal, Value, Refused, Unfinished, Malformed}
use Rattle.number.specs.Fetching.{cursor}
use Rattle.number.specs.Number.{number_at, Refuses, shortest, max_number}
use Rattle.number.specs.Forms.{Bytes, CutShort, Groups, joined_groups, Misspelled, longer, announces, above}
use Rattle.number.proofs.NumberLaws.{none, one, cut, long, two, cut2, long2, high, three, refuses, one-refusal, no-refusal}
use Rattle.number.proofs.ShortestForm.{shortest-one, shortest-two, shortest-three, reads-shortest, reads-only-shortest}

-- ---- how long shortest forms are
two_bytes : (v : ℕ) → 128 ≤ v → 2 ≤ length (shortest v)
two_bytes v h = go (dec_lt v 16384)
  where
    go : Dec (v < 16384) → 2 ≤ length (shortest v)
    go (yes l) = rw (shortest-two v h l) (omega arith)
    go (no l) = rw (shortest-three v (omega arith)) (omega arith)

two-or-less : (v : ℕ) → v < 16384 → length (shortest v) ≤ 2
two-or-less v h = go (dec_lt v 128)
  where
    go : Dec (v < 128) → length (shortest v) ≤ 2
    go (yes l) = rw (shortest-one v l) (omega arith)
    go (no l) = rw (shortest-two v (omega arith) h) (omega arith)

some_bytes : (v : ℕ) → 1 ≤ length (shortest v)
some_bytes v = go (dec_lt v 128)
  where
    go : Dec (v < 128) → 1 ≤ length (shortest v)
    go (yes l) = rw (shortest-one v l) (omega arith)
    go (no l) = omega (arith, two_bytes v (omega arith))

-- ---- a byte that is left, and what follows it
module _ (s : List ℕ) (at : ℕ) {a : ℕ} {l : List ℕ} (e : drop at s ≡ a ∷ l) where
  pub left-inside : at < length s
  left-inside = let h = length-drop at s in let k = ap length e in omega (arith, h, k)

  pub left-head : get_or s at 0 ≡ a
  left-head =
      let q : get_or (drop at s) 0 0 ≡ get_or s (at + 0) 0 = get_or-drop at s 0 0 in
      let z : at + 0 ≡ at = omega arith in
      let y : get_or (drop at s) 0 0 ≡ a = rw e in
      sym (rw z at q) ∙ y

  pub left-tail : drop (at + 1) s ≡ l
  left-tail = sym (drop-drop 1 at s) ∙ (rw e)

-- nothing is left
left-none : (s : List ℕ) (at : ℕ) → drop at s ≡ [] → length s ≤ at
left-none s at e = let h = length-drop at s in let k = ap length e in omega (arith, h, k)

-- what is left, where a byte is
left-byte : (s : List ℕ) (at : ℕ) → at < length s → drop at s ≡ get_or s at 0 ∷ drop (at + 1) s
left-byte s at h = let z : at + 1 ≡ suc at = omega arith in rw z (drop-cons s at 0 h)

left_out : (s : List ℕ) (at : ℕ) → length s ≤ at → drop at s ≡ []
left_out s at h = go (drop at s) refl
  where
    go : (l : List ℕ) → drop at s ≡ l → l ≡ []
    go [] e = refl
    go (a ∷ l) e = let k = left-inside s at e in absurd (omega arith)

-- ---- the numbers of one, two and three groups
joined-two : (a b : ℕ) → b < 128 → joined_groups (a ∷ b ∷ []) ≡ a % 128 + b * 128
unfolding joined_groups
joined-two a b h = omega arith

joined-three : (a b c : ℕ) → c < 128 → joined_groups (a ∷ b ∷ c ∷ []) ≡ a % 128 + (b % 128 + c * 128) * 128
unfolding joined_groups
joined-three a b c h = let z : c % 128 ≡ c = omega arith in rw z (omega arith)

module _ (s : List ℕ) (at : ℕ) where
  -- ---- from what is left to what is read
  cut_at : (l missing : List ℕ) (v : ℕ) → drop at s ≡ l → 1 ≤ length missing → l ++ missing ≡ shortest v → Refuses (number_at s at) (Unfinished at)
  cut_at [] missing v d h e = refuses (none s at (left-none s at d) refl)
  cut_at (a ∷ l) missing v d h e = go (dec_lt v 128) (dec_lt v 16384)
    where
      inside : at < length s
      inside = left-inside s at d

      head : get_or s at 0 ≡ a
      head = left-head s at d

      second : (l : List ℕ) → drop (at + 1) s ≡ l → (w b c : ℕ) → 128 ≤ a → a ∷ l ++ missing ≡ w ∷ b ∷ c ∷ [] → 128 ≤ b
          → Refuses (number_at s at) (Unfinished at)
      second [] t w b c p q r = refuses (cut s at inside (omega (arith, head)) (left-none s (at + 1) t) refl)
      second (x ∷ []) t w b c p q r =
          let y : x ≡ b = cc in
          refuses (cut2 s at inside (omega (arith, head)) (left-inside s (at + 1) t) (omega (arith, y, left-head s (at + 1) t))
          (left-none s (at + 1 + 1) (left-tail s (at + 1) t)) refl)
      second (x ∷ y ∷ l) t w b c p q r = let z = ap length q in absurd (omega (arith, z, length-append l missing))

      go : Dec (v < 128) → Dec (v < 16384) → Refuses (number_at s at) (Unfinished at)
      go (yes k) m = let z = ap length (e ∙ shortest-one v k) in absurd (omega (arith, z, length-append l missing))
      go (no k) (yes m) = two-cut l (left-tail s at d) (e ∙ shortest-two v (omega arith) m)
        where
          two-cut : (l : List ℕ) → drop (at + 1) s ≡ l → a ∷ l ++ missing ≡ (v % 128 + 128) ∷ (v / 128) ∷ [] → Refuses (number_at s at) (Unfinished at)
          two-cut [] t q = let x : a ≡ v % 128 + 128 = cc in refuses (cut s at inside (omega (arith, head, x)) (left-none s (at + 1) t) refl)
          two-cut (x ∷ l) t q = let z = ap length q in absurd (omega (arith, z, length-append l missing))
      go (no k) (no m) =
          let q = e ∙ shortest-three v (omega arith) in
          let x : a ≡ v % 128 + 128 = cc in
          second l (left-tail s at d) (v % 128 + 128) (v / 128 % 128 + 128) (v / 16384) (omega (arith, x)) q (omega arith)

  -- three groups that are no number
  module _ {a b c : ℕ} {l : List ℕ} (d : drop at s ≡ a ∷ b ∷ c ∷ l) (p : 128 ≤ a) (q : 128 ≤ b) where
    on-third : {A : Type 0}
        → (at < length s → 128 ≤ get_or s at 0 → at + 1 < length s → 128 ≤ get_or s (at + 1) 0 → at + 1 + 1 < length s → get_or s (at + 1 + 1) 0 ≡ c → A) → A
    on-third k =
        let t = left-tail s at d in
        let u = left-tail s (at + 1) t in
        k (left-inside s at d) (omega (arith, left-head s at d)) (left-inside s (at + 1) t) (omega (arith, left-head s (at + 1) t))
        (left-inside s (at + 1 + 1) u) (left-head s (at + 1 + 1) u)

    high-at : 3 < c → Refuses (number_at s at) (Malformed at)
    high-at h = on-third (λ i x j y k e. refuses (high s at i x j y k (omega (arith, e)) refl))

    zero-at : c ≡ 0 → Refuses (number_at s at) (Malformed at)
    zero-at h = on-third (λ i x j y k e. refuses (long2 s at i x j y k (e ∙ h) refl))

  two-zero : {a b : ℕ} {l : List ℕ} → drop at s ≡ a ∷ b ∷ l → 128 ≤ a → b ≡ 0 → Refuses (number_at s at) (Malformed at)
  two-zero d p h =
      let t = left-tail s at d in
      refuses (long s at (left-inside s at d) (omega (arith, left-head s at d)) (left-inside s (at + 1) t) (left-head s (at + 1) t ∙ h) refl)

  -- groups that are longer than the shortest form of their number, or write a number above the highest
  long-at : (g more : List ℕ) → drop at s ≡ g ++ more → Groups g → length (shortest (joined_groups g)) < length g → Refuses (number_at s at) (Malformed at)
  unfolding joined_groups
  long-at [] more d h l = absurd h
  long-at (a ∷ []) more d h l =
      let z : joined_groups (a ∷ []) < 128 = omega arith in
      let y = ap length (shortest-one (joined_groups (a ∷ [])) z) in absurd (omega (arith, y, l))
  long-at (a ∷ b ∷ []) more d h l = go (dec_lt 0 b)
    where
      go : Dec (0 < b) → Refuses (number_at s at) (Malformed at)
      go (yes k) = absurd (omega (arith, l, two_bytes (joined_groups (a ∷ b ∷ [])) (omega (arith, joined-two a b h.1))))
      go (no k) = two-zero d h.0 (omega arith)
  long-at (a ∷ b ∷ c ∷ []) more d h l = go (dec_lt 0 c) (dec_lt 3 c)
    where
      v : ℕ
      v = joined_groups (a ∷ b ∷ c ∷ [])

      go : Dec (0 < c) → Dec (3 < c) → Refuses (number_at s at) (Malformed at)
      go (yes k) m =
          let e = joined-three a b c h.1.1 in
          let y = ap length (shortest-three v (omega (arith, e))) in absurd (omega (arith, y, l))
      go (no k) m = zero-at d h.0 h.1.0 (omega arith)
  long-at (a ∷ b ∷ c ∷ x ∷ g) more d h l = let k = h.1.1.0 in high-at d h.0 h.1.0 (omega (arith, k))

  above_at : (g more : List ℕ) → drop at s ≡ g ++ more → Groups g → max_number < joined_groups g → Refuses (number_at s at) (Malformed at)
  unfolding joined_groups
  above_at [] more d h l = absurd h
  above_at (a ∷ []) more d h l = absurd (omega (arith, l))
  above_at (a ∷ b ∷ []) more d h l = absurd (omega (arith, l, h.1, joined-two a b h.1))
  above_at (a ∷ b ∷ c ∷ []) more d h l =
      let e = joined-three a b c h.1.1 in high-at d h.0 h.1.0 (omega (arith, l, e))
  above_at (a ∷ b ∷ c ∷ x ∷ g) more d h l = let k = h.1.1.0 in high-at d h.0 h.1.0 (omega (arith, k))

  misspelled-at : Misspelled (drop at s) → Refuses (number_at s at) (Malformed at)
  misspelled-at (longer g more e h l) = long-at g more e h l
  misspelled-at (announces a b c more e p q r) = high-at e p q (omega arith)
  misspelled-at (above g more e h l) = above_at g more e h l

  pub value-at : (v : ℕ) (rest : List ℕ) → v ≤ max_number → drop at s ≡ shortest v ++ rest → number_at s at ≡ Value v (cursor (at + length (shortest v)))
  value-at v rest h d =
      let e : take at s ++ (shortest v ++ rest) ≡ s = ap (λ (l : List ℕ). take at s ++ l) (sym d) ∙ take-append-drop at s in
      let k = length-drop at s in
      let m = ap length d in
      let n = length-append (shortest v) rest in
      let f : length (take at s) ≡ at = length-take-le at s (omega (arith, k, m, n, some_bytes v)) in
      let q = reads-shortest (take at s) v rest h in rw (e, f) at q

-- ---- from what is read to what is left
-- what a refused number says of the bytes from its place on: they break off, or misspell it
abbrev Fault : List ℕ → ℕ → Refusal → Type 0
Fault s at r = ((r ≡ Unfinished at) × CutShort (drop at s)) ⊎ ((r ≡ Malformed at) × Misspelled (drop at s))

-- what `number_at` answers means that
abbrev Meant : List ℕ → ℕ → Read → Type 0
Meant s at (Value v c) = (v ≤ max_number) × (c ≡ cursor (at + length (shortest v))) × (drop at s ≡ shortest v ++ drop c.at s)
Meant s at (Refused r c) = Fault s at r

module _ (s : List ℕ) (bytes : Bytes s) (at : ℕ) where
  abbrev low : ℕ
  low = get_or s at 0

  abbrev middle : ℕ
  middle = get_or s (at + 1) 0

  abbrev last : ℕ
  last = get_or s (at + 1 + 1) 0

  -- a refusal that is 1, and one that is 2
  abbrev Refusing : Refusal → Type 0
  Refusing r = Refuses (number_at s at) r → Fault s at r

  is-1 : {r : Refusal} {c : Cursor} → Refused (Unfinished at) c ≡ number_at s at → CutShort (drop at s) → Refusing r
  is-1 e h q = inl (one-refusal (number_at s at) q (refuses e), h)

  is-2 : {r : Refusal} {c : Cursor} → Refused (Malformed at) c ≡ number_at s at → Misspelled (drop at s) → Refusing r
  is-2 e h q = inr (one-refusal (number_at s at) q (refuses e), h)

  module _ (r : Refusal) where
    on-last : at < length s → 128 ≤ low → at + 1 < length s → 128 ≤ middle → Dec (length s ≤ at + 1 + 1) → Dec (0 < last) → Dec (last ≤ 3)
        → Dec (last < 128) → Refusing r
    unfolding joined_groups
    on-last h b d f (yes g) z k m =
        let v : ℕ = low % 128 + (middle % 128 + 128) * 128 in
        let x : v % 128 + 128 ≡ low = omega (arith, bytes at) in
        let w : v / 128 ≡ middle % 128 + 128 = omega arith in
        let y : v / 128 % 128 + 128 ≡ middle = rw w (omega (arith, bytes (at + 1))) in
        let u : v / 16384 ≡ 1 = omega arith in
        is-1 (cut2 s at h b d f g refl)
        (v, 1 ∷ [], omega arith, omega arith, sym (ap (λ (l : List ℕ). l ++ 1 ∷ []) e) ∙ (rw (shortest-three v (omega arith), x, y, u)))
      where
        e : low ∷ middle ∷ [] ≡ drop at s
        e = sym (left-byte s at h ∙ ap (λ (l : List ℕ). low ∷ l) (left-byte s (at + 1) d ∙ ap (λ (l : List ℕ). middle ∷ l) (left_out s (at + 1 + 1) g)))
    on-last h b d f (no g) z k m = by_last z k m
      where
        e : drop at s ≡ low ∷ middle ∷ last ∷ drop (at + 1 + 1 + 1) s
        e = left-byte s at h ∙ ap (λ (l : List ℕ). low ∷ l)
            (left-byte s (at + 1) d ∙ ap (λ (l : List ℕ). middle ∷ l) (left-byte s (at + 1 + 1) (omega arith)))

        by_last : Dec (0 < last) → Dec (last ≤ 3) → Dec (last < 128) → Refusing r
        by_last (no z) k m =
            let q = joined-three low middle last (omega arith) in
            let y = two-or-less (joined_groups (low ∷ middle ∷ last ∷ [])) (omega (arith, q)) in
            is-2 (long2 s at h b d f (omega arith) (omega arith) refl)
            (longer (low ∷ middle ∷ last ∷ []) (drop (at + 1 + 1 + 1) s) e (b, (f, omega arith)) (omega (arith, y)))
        by_last (yes z) (no k) (no m) = is-2 (high s at h b d f (omega arith) (omega arith) refl) (announces low middle last _ e b f (omega arith))
        by_last (yes z) (no k) (yes m) =
            let q = joined-three low middle last m in
            is-2 (high s at h b d f (omega arith) (omega arith) refl)
            (above (low ∷ middle ∷ last ∷ []) (drop (at + 1 + 1 + 1) s) e (b, (f, m)) (omega (arith, q)))
        by_last (yes z) (yes k) m = λ q. absurd (no-refusal r (three s at h b d f (omega arith) z k refl refl) q)

    on-middle : at < length s → 128 ≤ low → Dec (length s ≤ at + 1) → Dec (0 < middle) → Dec (middle < 128) → Refusing r
    unfolding joined_groups
    on-middle h b (yes d) z k =
        let v : ℕ = low % 128 + 128 in
        let x : v % 128 + 128 ≡ low = omega (arith, bytes at) in
        let y : v / 128 ≡ 1 = omega arith in
        let e : low ∷ [] ≡ drop at s = sym (left-byte s at h ∙ ap (λ (l : List ℕ). low ∷ l) (left_out s (at + 1) d)) in
        is-1 (cut s at h b d refl)
        (v, 1 ∷ [], omega arith, omega arith, sym (ap (λ (l : List ℕ). l ++ 1 ∷ []) e) ∙ (rw (shortest-two v (omega arith) (omega arith), x, y)))
    on-middle h b (no d) (no z) k =
        let q = joined-two low middle (omega arith) in
        let y = ap length (shortest-one (joined_groups (low ∷ middle ∷ [])) (omega (arith, q))) in
        is-2 (long s at h b (omega arith) (omega arith) refl)
        (longer (low ∷ middle ∷ []) (drop (at + 1 + 1) s) (left-byte s at h ∙ ap (λ (l : List ℕ). low ∷ l) (left-byte s (at + 1) (omega arith)))
        (b, omega arith) (omega (arith, y)))
    on-middle h b (no d) (yes z) (yes k) = λ q. absurd (no-refusal r (two s at h b (omega arith) z k refl refl) q)
    on-middle h b (no d) (yes z) (no k) =
        on-last h b (omega arith) (omega arith) (dec_le (length s) (at + 1 + 1)) (dec_lt 0 last) (dec_le last 3) (dec_lt last 128)

    on-low : Dec (length s ≤ at) → Dec (low < 128) → Refusing r
    on-low (yes h) b = is-1 (none s at h refl) (rw (left_out s at h) (0, 0 ∷ [], omega arith, omega arith, sym (shortest-one 0 (omega arith))))
    on-low (no h) (yes b) = λ q. absurd (no-refusal r (one s at (omega arith) refl b refl) q)
    on-low (no h) (no b) = on-middle (omega arith) (omega arith) (dec_le (length s) (at + 1)) (dec_lt 0 middle) (dec_lt middle 128)

  fault : (r : Refusal) → Refusing r
  fault r = on-low r (dec_le (length s) at) (dec_lt low 128)

  meant : (x : Read) → number_at s at ≡ x → Meant s at x
  meant (Value v c) e =
      let h = reads-only-shortest s bytes at e in
      let q = value-at s at v (drop c.at s) h.0 h.1 in
      (h.0, cc, h.1)
  meant (Refused r c) e = fault r (refuses (sym e))

  -- ---- exactly
  -- a number is read exactly from its shortest form, and the cursor stands behind it
  pub value-iff : (v : ℕ) (c : Cursor) → (number_at s at ≡ Value v c)
      ↔ ((v ≤ max_number) × (c ≡ cursor (at + length (shortest v))) × (drop at s ≡ shortest v ++ drop c.at s))
  value-iff v c = (meant (Value v c), λ h. value-at s at v (drop c.at s) h.0 h.2 ∙ ap (Value v) (sym h.1))

  -- 1 is given exactly if the bytes end before the number does
  pub unfinished-iff : Refuses (number_at s at) (Unfinished at) ↔ CutShort (drop at s)
  unfinished-iff = (λ e. first (fault (Unfinished at) e), λ h. cut_at s at (drop at s) h.1 h.0 refl h.3 h.4)
    where
      first : Fault s at (Unfinished at) → CutShort (drop at s)
      first (inl h) = h.1
      first (inr h) = let q = h.0 in clash (cc)

  -- 2 is given exactly if the number is not written as it must be
  pub malformed-iff : Refuses (number_at s at) (Malformed at) ↔ Misspelled (drop at s)
  malformed-iff = (λ e. second (fault (Malformed at) e), misspelled-at s at)
    where
      second : Fault s at (Malformed at) → Misspelled (drop at s)
      second (inl h) = let q = h.0 in clash (cc)
      second (inr h) = h.1

  -- no other refusal is given
  pub number-refusals : (r : Refusal) → Refuses (number_at s at) r → (r ≡ Unfinished at) ⊎ (r ≡ Malformed at)
  number-refusals r e = go (fault r e)
    where
      go : Fault s at r → (r ≡ Unfinished at) ⊎ (r ≡ Malformed at)
      go (inl h) = inl h.0
      go (inr h) = inr h.0
