-- Kept configurations in ascending order: equal lists exactly if equal sets.
use mathlib.Core.Path.{◌≡◌, refl, sym, ap, subst, ◌∙◌}
use mathlib.Core.Logic.{◌↔◌, ◌⊎◌, inl, inr}
use mathlib.Core.Bool.{Bool, true, false, cond}
use mathlib.Core.List.Memᴰ
use mathlib.Core.List.{List, [], ◌∷◌}
use Prim.Native.Nat.{◌≤◌, ◌<◌}
use native.Mathlib.Omega.{arith}
use lib.Dec.{T, leb}
use borrow.Author.Tests.{leb-true, leb-false}
use Rattle.base.proofs.Booleans.{true→T, false→¬T}
use Rattle.grammar.specs.Grammar.{Grammar}
use Rattle.lookahead.specs.Configs.{Config, In}
use Rattle.lookahead.specs.Order.{kept?, keep, key, Packable, insert, sort, Ascending, none, next, kept}
use Rattle.base.specs.Lists.{Distinct, nil, also}
use Rattle.lookahead.specs.Rules.{Each}
use Rattle.lookahead.proofs.ListLaws.{Sub}
use Rattle.lookahead.proofs.KeyLaws.{key_one}

-- ---- members that pass a test
module _ {A : Type 0} (f : A → Bool) where
  pub keep_out : (l : List A) {x : A} → In x (keep f l) → In x l × T (f x)
  unfolding keep
  keep_out [] m = absurd (Memᴰ.not-nil m)
  keep_out (y ∷ l) {x} m = go (f y) refl m (λ n. keep_out l n)
    where
      later : In x l × T (f x) → In x (y ∷ l) × T (f x)
      later (n, t) = (Memᴰ.tail n, t)

      go : (b : Bool) → f y ≡ b → In x (cond b (y ∷ keep f l) (keep f l)) → (In x (keep f l) → In x l × T (f x)) → In x (y ∷ l) × T (f x)
      go true e n rec = pick (Memᴰ.cases_cons n)
        where
          pick : (x ≡ y) ⊎ In x (keep f l) → In x (y ∷ l) × T (f x)
          pick (inl q) = (Memᴰ.head q, rw q (true→T (f y) e))
          pick (inr k) = later (rec k)
      go false e n rec = later (rec n)

  pub keep-in : (l : List A) {x : A} → In x l → T (f x) → In x (keep f l)
  unfolding keep
  keep-in [] m t = absurd (Memᴰ.not-nil m)
  keep-in (y ∷ l) {x} m t = go (f y) refl (Memᴰ.cases_cons m) (λ n. keep-in l n t)
    where
      go : (b : Bool) → f y ≡ b → (x ≡ y) ⊎ In x l → (In x l → In x (keep f l)) → In x (cond b (y ∷ keep f l) (keep f l))
      go true e (inl q) rec = Memᴰ.head q
      go true e (inr n) rec = Memᴰ.tail (rec n)
      go false e (inl q) rec = absurd (false→¬T (f y) e (rw q at t))
      go false e (inr n) rec = rec n

  keep-distinct : {l : List A} → Distinct l → Distinct (keep f l)
  unfolding keep
  keep-distinct nil = nil
  keep-distinct (also {x = x} {l = l} n d) = go (f x) (keep-distinct d)
    where
      go : (b : Bool) → Distinct (keep f l) → Distinct (cond b (x ∷ keep f l) (keep f l))
      go true rec = also (λ m. n (keep_out l m).0) rec
      go false rec = rec

-- ---- ascending lists
-- two of them with the same members are equal
pub ascending-one : {k l : List Config} → Ascending k → Ascending l → Sub k l → Sub l k → k ≡ l
ascending-one none none s t = refl
ascending-one none (next {c = y} b l) s t = absurd (Memᴰ.not-nil (t y (Memᴰ.head refl)))
ascending-one (next {c = x} a k) none s t = absurd (Memᴰ.not-nil (s x (Memᴰ.head refl)))
ascending-one (next {c = x} {l = k} a p) (next {c = y} {l = l} b q) s t =
    let e = heads (Memᴰ.cases_cons (s x (Memᴰ.head refl))) (Memᴰ.cases_cons (t y (Memᴰ.head refl))) in
    let r = ascending-one p q (λ z m. left e z m (Memᴰ.cases_cons (s z (Memᴰ.tail m))))
    (λ z m. right e z m (Memᴰ.cases_cons (t z (Memᴰ.tail m)))) in
    cc
  where
    heads : (x ≡ y) ⊎ In x l → (y ≡ x) ⊎ In y k → x ≡ y
    heads (inl e) n = e
    heads (inr m) (inl e) = sym e
    heads (inr m) (inr n) = let h = b x m in let i = a y n in absurd (omega arith)

    left : x ≡ y → (z : Config) → In z k → (z ≡ y) ⊎ In z l → In z l
    left e z m (inl w) = let h = a z m in let i : key z ≡ key x = ap key (w ∙ sym e) in absurd (omega arith)
    left e z m (inr n) = n

    right : x ≡ y → (z : Config) → In z l → (z ≡ x) ⊎ In z k → In z k
    right e z m (inl w) = let h = b z m in let i : key z ≡ key y = ap key (w ∙ e) in absurd (omega arith)
    right e z m (inr n) = n

-- ---- sorting
insert-out : (c : Config) (l : List Config) → Sub (insert c l) (c ∷ l)
unfolding insert
insert-out c [] x m = m
insert-out c (d ∷ l) x m = go (leb (key c) (key d)) m (λ n. insert-out c l x n)
  where
    deeper : (x ≡ c) ⊎ In x l → In x (c ∷ d ∷ l)
    deeper (inl e) = Memᴰ.head e
    deeper (inr n) = Memᴰ.tail (Memᴰ.tail n)

    go : (b : Bool) → In x (cond b (c ∷ d ∷ l) (d ∷ insert c l)) → (In x (insert c l) → In x (c ∷ l)) → In x (c ∷ d ∷ l)
    go true n rec = n
    go false n rec = pick (Memᴰ.cases_cons n)
      where
        pick : (x ≡ d) ⊎ In x (insert c l) → In x (c ∷ d ∷ l)
        pick (inl e) = Memᴰ.tail (Memᴰ.head e)
        pick (inr k) = deeper (Memᴰ.cases_cons (rec k))

insert-in : (c : Config) (l : List Config) → Sub (c ∷ l) (insert c l)
unfolding insert
insert-in c [] x m = m
insert-in c (d ∷ l) x m = go (leb (key c) (key d)) (Memᴰ.cases_cons m) (λ n. insert-in c l x n)
  where
    go : (b : Bool) → (x ≡ c) ⊎ In x (d ∷ l) → (In x (c ∷ l) → In x (insert c l)) → In x (cond b (c ∷ d ∷ l) (d ∷ insert c l))
    go true n rec = m
    go false (inl e) rec = Memᴰ.tail (rec (Memᴰ.head e))
    go false (inr n) rec = pick (Memᴰ.cases_cons n)
      where
        pick : (x ≡ d) ⊎ In x l → In x (d ∷ insert c l)
        pick (inl e) = Memᴰ.head e
        pick (inr k) = Memᴰ.tail (rec (Memᴰ.tail k))

-- ascending, equal values included
unfoldable pub Rising : List Config → Type 0
Rising [] = Unit {0}
Rising (c ∷ l) = Each (λ (d : Config). key c ≤ key d) l × Rising l

insert-rising : (c : Config) (l : List Config) → Rising l → Rising (insert c l)
unfolding insert Rising
insert-rising c [] r = (λ x m. absurd (Memᴰ.not-nil m), tt)
insert-rising c (d ∷ l) (a, s) = go (leb (key c) (key d)) refl (insert-rising c l s)
  where
    above : key c ≤ key d → (x : Config) → (x ≡ d) ⊎ In x l → key c ≤ key x
    above q x (inl e) = rw e q
    above q x (inr n) = let i = a x n in omega arith

    under : key d < key c → (x : Config) → (x ≡ c) ⊎ In x l → key d ≤ key x
    under q x (inl e) = let z : key x ≡ key c = ap key e in omega arith
    under q x (inr n) = a x n

    go : (b : Bool) → leb (key c) (key d) ≡ b → Rising (insert c l) → Rising (cond b (c ∷ d ∷ l) (d ∷ insert c l))
    go true e rec = (λ x m. above (leb-true (key c) (key d) e) x (Memᴰ.cases_cons m), (a, s))
    go false e rec = (λ x m. under (leb-false (key c) (key d) e) x (Memᴰ.cases_cons (insert-out c l x m)), rec)

insert-distinct : (c : Config) {l : List Config} → ¬ In c l → Distinct l → Distinct (insert c l)
unfolding insert
insert-distinct c n nil = also n nil
insert-distinct c n (also {x = d} {l = l} z s) = go (leb (key c) (key d)) (insert-distinct c (λ m. n (Memᴰ.tail m)) s)
  where
    out : (d ≡ c) ⊎ In d l → ⊥
    out (inl e) = n (Memᴰ.head (sym e))
    out (inr m) = z m

    go : (b : Bool) → Distinct (insert c l) → Distinct (cond b (c ∷ d ∷ l) (d ∷ insert c l))
    go true rec = also n (also z s)
    go false rec = also (λ m. out (Memᴰ.cases_cons (insert-out c l d m))) rec

pub sort-out : (l : List Config) → Sub (sort l) l
unfolding sort
sort-out [] x m = m
sort-out (c ∷ l) x m = pick (Memᴰ.cases_cons (insert-out c (sort l) x m)) (λ n. sort-out l x n)
  where
    pick : (x ≡ c) ⊎ In x (sort l) → (In x (sort l) → In x l) → In x (c ∷ l)
    pick (inl e) rec = Memᴰ.head e
    pick (inr n) rec = Memᴰ.tail (rec n)

pub sort-in : (l : List Config) → Sub l (sort l)
unfolding sort
sort-in [] x m = m
sort-in (c ∷ l) x m = pick (Memᴰ.cases_cons m) (λ n. sort-in l x n)
  where
    pick : (x ≡ c) ⊎ In x l → (In x l → In x (sort l)) → In x (insert c (sort l))
    pick (inl e) rec = insert-in c (sort l) x (Memᴰ.head e)
    pick (inr n) rec = insert-in c (sort l) x (Memᴰ.tail (rec n))

sort-rising : (l : List Config) → Rising (sort l)
unfolding sort Rising
sort-rising [] = tt
sort-rising (c ∷ l) = insert-rising c (sort l) (sort-rising l)

sort-distinct : {l : List Config} → Distinct l → Distinct (sort l)
unfolding sort
sort-distinct nil = nil
sort-distinct (also {x = c} {l = l} n d) = insert-distinct c (λ m. n (sort-out l c m)) (sort-distinct d)

-- different ones have different values
rising-ascending : {l : List Config} → Distinct l → Rising l → Each Packable l → Ascending l
unfolding Rising
rising-ascending nil r h = none
rising-ascending (also {x = c} {l = l} n d) (a, r) h = next below (rising-ascending d r (λ x m. h x (Memᴰ.tail m)))
  where
    below : (x : Config) → In x l → key c < key x
    below x m =
        let i = a x m in
        let z : ¬ (key c ≡ key x) = λ e. n (subst (λ (y : Config). In y l) (sym (key_one c x (h c (Memᴰ.head refl)) (h x (Memᴰ.tail m)) e)) m) in
        omega arith

pub sort-ascending : {l : List Config} → Distinct l → Each Packable l → Ascending (sort l)
sort-ascending {l} d h = rising-ascending (sort-distinct d) (sort-rising l) (λ x m. h x (sort-out l x m))

-- ---- the kept members of a closed set
module _ (g : Grammar) where
  -- they are its members that are to be kept
  pub kept-right : (ms : List Config) (c : Config) → In c (kept g ms) ↔ (In c ms × T (kept? g c))
  unfolding kept
  kept-right ms c = (λ m. keep_out (kept? g) ms (sort-out (keep (kept? g) ms) c m), λ h. sort-in (keep (kept? g) ms) c (keep-in (kept? g) ms h.0 h.1))

  -- in ascending order
  pub kept-rising : (ms : List Config) → Rising (kept g ms)
  unfolding kept
  kept-rising ms = sort-rising (keep (kept? g) ms)

  pub kept-ascending : (ms : List Config) → Distinct ms → Each Packable ms → Ascending (kept g ms)
  unfolding kept
  kept-ascending ms d h = sort-ascending (keep-distinct (kept? g) d) (λ c m. h c (keep_out (kept? g) ms m).0)

  -- two closed sets have equal lists exactly if they keep the same configurations
  pub kept-equal : (ms ns : List Config) → Distinct ms → Distinct ns → Each Packable ms → Each Packable ns
      → (kept g ms ≡ kept g ns) ↔ ((c : Config) → T (kept? g c) → In c ms ↔ In c ns)
  kept-equal ms ns d e h k = (there, back)
    where
      there : kept g ms ≡ kept g ns → (c : Config) → T (kept? g c) → In c ms ↔ In c ns
      there q c t = (
        λ m. ((kept-right ns c).0 (subst (In c) q ((kept-right ms c).1 (m, t)))).0,
        λ m. ((kept-right ms c).0 (subst (In c) (sym q) ((kept-right ns c).1 (m, t)))).0,
      )

      back : ((c : Config) → T (kept? g c) → In c ms ↔ In c ns) → kept g ms ≡ kept g ns
      back s =
          ascending-one (kept-ascending ms d h) (kept-ascending ns e k)
          (λ c m. let x = (kept-right ms c).0 m in (kept-right ns c).1 ((s c x.1).0 x.0, x.1))
          (λ c m. let x = (kept-right ns c).0 m in (kept-right ms c).1 ((s c x.1).1 x.0, x.1))
