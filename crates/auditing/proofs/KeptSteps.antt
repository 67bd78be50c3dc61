-- The words of a state's configurations, looked at one after another, are what the test asks.
use mathlib.Core.Path.{◌≡◌, refl, sym, ap, ◌∙◌, subst}
use mathlib.Core.Bool.{Bool, true, false, ◌&&◌, ◌||◌, not}
use mathlib.Core.List.{List, ◌∷◌, ◌++◌}
use Prim.Native.Nat.{ℕ, zero, suc, ◌+◌, ◌-◌, ◌*◌, ◌≤◌, ◌<◌}
use native.Mathlib.Omega.{arith}
use native.Mathlib.Decide.{dec_lt}
use lib.Dec.{T, ltb}
use lib.ListN.{length, get_or, drop, drop_of_length-le}
use borrow.Author.Tests.{ne_eqb}
use Rattle.base.specs.Search.{all_from}
use Rattle.base.proofs.Booleans.{clash, and_T, T_and, and_none, T→true, same}
use Rattle.base.proofs.AllLaws.{all-T, T-all}
use Rattle.lookahead.specs.Closing.{same_list}
use Rattle.lookahead.specs.Order.{key}
use Rattle.lookahead.proofs.AddLaws.{same-list, list_same}
use Rattle.configurations.specs.declared.config.Packed.{Packed}
use Rattle.configurations.specs.Packing.{config_words, storable?, pack, pack_all, unpack_all}
use Rattle.configurations.specs.inside.Packed.{config_of, Exact, fits?, packed_at}
use Rattle.configurations.specs.inside.Held.{config_at}
use Rattle.configurations.proofs.FitLaws.{fits-T, T-fits}
use Rattle.configurations.proofs.StandLaws.{Words, pack-at}
use Rattle.configurations.proofs.WordLaws.{said_from, said_all, said-next, said-none, words-next}
use Rattle.auditing.specs.Coherence.{ascending?, storable_all?, kept?}
use Rattle.auditing.specs.inside.Ordered.{above?, in_order?}

-- equal lists have equal words
three : {x y z x' y' z' : ℕ} {l l' : List ℕ} → x ∷ y ∷ z ∷ l ≡ x' ∷ y' ∷ z' ∷ l' → (x ≡ x') × (y ≡ y') × (z ≡ z') × (l ≡ l')
three e = (cc, cc, cc, cc)

module _ (ws : List ℕ) (n : ℕ) (long : length ws ≡ config_words * n) (small : Words ws) where
  -- ---- from the single configurations to the whole
  module _ (each : (k : ℕ) → k < n → T (in_order? ws k)) where
    fits-at : (k : ℕ) → k < n → T (fits? (packed_at ws k))
    unfolding in_order?
    fits-at k l = (and_T (fits? (packed_at ws k)) (above? ws k) (each k l)).0

    above_at : (k : ℕ) → suc k < n → T (ltb (key (config_at ws k)) (key (config_at ws (suc k))))
    unfolding in_order? above?
    above_at k l =
        let above = (and_T (fits? (packed_at ws (suc k))) (above? ws (suc k)) (each (suc k) l)).1 in
        let z : suc k - 1 ≡ k = omega arith in
        rw (ne_eqb (suc k) 0 (λ e. omega arith), z) at above

    -- no bit too many
    packed-from : (m j : ℕ) → j + m ≡ n → drop (config_words * j) ws ≡ pack_all (said_from ws j)
    unfolding pack_all
    packed-from zero j e =
        drop_of_length-le ws {i = config_words * j} (omega arith) ∙ ap pack_all (sym (said-none ws j (omega arith)))
    packed-from (suc m) j e =
        let here = pack-at ws j small (fits-T (packed_at ws j) (fits-at j (omega arith))).exact in
        let rest = packed-from m (suc j) (omega arith) in
        words-next ws j (omega arith)
        ∙ ap (λ (l : List ℕ). get_or ws (config_words * j) 0 ∷ get_or ws (config_words * j + 1) 0 ∷ get_or ws (config_words * j + 2) 0 ∷ l) rest
        ∙ ap (λ (l : List ℕ). l ++ pack_all (said_from ws (suc j))) (sym here)
        ∙ ap pack_all (sym (said-next ws j (omega arith)))

    -- numbers in range
    stored-from : (m j : ℕ) → j + m ≡ n → T (storable_all? (said_from ws j))
    unfolding storable_all? config_at
    stored-from zero j e = rw (said-none ws j (omega arith)) tt
    stored-from (suc m) j e =
        rw (said-next ws j (omega arith))
        (T_and (storable? (config_at ws j)) (storable_all? (said_from ws (suc j))) (fits-T (packed_at ws j) (fits-at j (omega arith))).stored
        (stored-from m (suc j) (omega arith)))

    -- in ascending order
    ordered-next : (j : ℕ) → j < n → Dec (suc j < n) → T (ascending? (said_from ws (suc j))) → T (ascending? (said_from ws j))
    unfolding ascending?
    ordered-next j l (no h) t = rw (said-next ws j (omega arith), said-none ws (suc j) (omega arith)) tt
    ordered-next j l (yes h) t =
        let rest : T (ascending? (config_at ws (suc j) ∷ said_from ws (suc (suc j)))) = rw (said-next ws (suc j) (omega arith)) at t in
        rw (said-next ws j (omega arith), said-next ws (suc j) (omega arith))
        (T_and (ltb (key (config_at ws j)) (key (config_at ws (suc j)))) (ascending? (config_at ws (suc j) ∷ said_from ws (suc (suc j)))) (above_at j h) rest)

    ordered-from : (m j : ℕ) → j + m ≡ n → T (ascending? (said_from ws j))
    unfolding ascending?
    ordered-from zero j e = rw (said-none ws j (omega arith)) tt
    ordered-from (suc m) j e = ordered-next j (omega arith) (dec_lt (suc j) n) (ordered-from m (suc j) (omega arith))

    kept-T : T (kept? ws)
    unfolding kept?
    kept-T =
        let ks = unpack_all ws in
        let a : ws ≡ pack_all ks = packed-from n 0 (omega arith) ∙ ap pack_all (said_all ws) in
        T_and (same_list ws (pack_all ks)) (storable_all? ks && ascending? ks) (subst (λ (l : List ℕ). T (same_list ws l)) a (list_same ws))
        (T_and (storable_all? ks) (ascending? ks) (rw (said_all ws) at (stored-from n 0 (omega arith))) (rw (said_all ws) at (ordered-from n 0 (omega arith))))

  -- ---- and from the whole to the single ones
  module _ (whole : T (kept? ws)) where
    parts : T (same_list ws (pack_all (unpack_all ws))) × T (storable_all? (unpack_all ws)) × T (ascending? (unpack_all ws))
    unfolding kept?
    parts =
        let ks = unpack_all ws in
        let (a, rest) = and_T (same_list ws (pack_all ks)) (storable_all? ks && ascending? ks) whole in
        let (b, c) = and_T (storable_all? ks) (ascending? ks) rest in
        (a, b, c)

    -- what holds from configuration j on
    record From (j : ℕ) : Type 0 where
      packed : drop (config_words * j) ws ≡ pack_all (said_from ws j)
      stored : T (storable_all? (said_from ws j))
      ordered : T (ascending? (said_from ws j))

    from_first : From 0
    from_first = record {
      packed = same-list ws (pack_all (unpack_all ws)) parts.0 ∙ ap pack_all (sym (said_all ws));
      stored = rw (said_all ws) parts.1;
      ordered = rw (said_all ws) parts.2;
    }

    -- the order of those behind j, and of j and the next
    later : (j : ℕ) → j < n → Dec (suc j < n) → T (ascending? (said_from ws j)) → T (ascending? (said_from ws (suc j)))
    unfolding ascending?
    later j l (no h) t = rw (said-none ws (suc j) (omega arith)) tt
    later j l (yes h) t =
        let x : T (ascending? (config_at ws j ∷ config_at ws (suc j) ∷ said_from ws (suc (suc j))))
        = rw (said-next ws j (omega arith), said-next ws (suc j) (omega arith)) at t in
        rw (said-next ws (suc j) (omega arith))
        (and_T (ltb (key (config_at ws j)) (key (config_at ws (suc j)))) (ascending? (config_at ws (suc j) ∷ said_from ws (suc (suc j)))) x).1

    next-above : (j : ℕ) → suc j < n → T (ascending? (said_from ws j)) → T (ltb (key (config_at ws j)) (key (config_at ws (suc j))))
    unfolding ascending?
    next-above j h t =
        let x : T (ascending? (config_at ws j ∷ config_at ws (suc j) ∷ said_from ws (suc (suc j))))
        = rw (said-next ws j (omega arith), said-next ws (suc j) (omega arith)) at t in
        (and_T (ltb (key (config_at ws j)) (key (config_at ws (suc j)))) (ascending? (config_at ws (suc j) ∷ said_from ws (suc (suc j)))) x).0

    -- configuration j, and what is left then
    from_next : (j : ℕ) → j < n → From j → From (suc j) × T (fits? (packed_at ws j))
    unfolding pack_all storable_all? config_at config_of packed_at pack
    from_next j l f =
        let k = config_at ws j in
        let e = three (sym (words-next ws j (omega arith)) ∙ f.packed ∙ ap pack_all (said-next ws j (omega arith))) in
        let t : T (storable_all? (k ∷ said_from ws (suc j))) = rw (said-next ws j (omega arith)) at f.stored in
        let (s, rest) = and_T (storable? k) (storable_all? (said_from ws (suc j))) t in
        let b : T (fits? (packed_at ws j)) = T-fits (packed_at ws j) (sym e.0) (omega (arith, e.1, e.2)) s in
        (record { packed = e.3; stored = rest; ordered = later j l (dec_lt (suc j) n) f.ordered }, b)

    from_each : (j : ℕ) → j ≤ n → From j
    from_each zero l = from_first
    from_each (suc j) l = (from_next j (omega arith) (from_each j (omega arith))).0

    in_order : (k : ℕ) → k < n → T (in_order? ws k)
    unfolding in_order? above?
    in_order k l = T_and (fits? (packed_at ws k)) (above? ws k) (from_next k l (from_each k (omega arith))).1 (go k l)
      where
        go : (k : ℕ) → k < n → T (above? ws k)
        go zero l = tt
        go (suc k) l =
            let z : suc k - 1 ≡ k = omega arith in
            rw (ne_eqb (suc k) 0 (λ e. omega arith), z) (next-above k l (from_each k (omega arith)).ordered)

  -- THE TEST, configuration by configuration
  pub kept_by : all_from (in_order? ws) 0 (n - 0) ≡ kept? ws
  kept_by =
      let z : n - 0 ≡ n = omega arith in
      rw z (same (all_from (in_order? ws) 0 n) (kept? ws) (λ t. kept-T (λ k l. all-T (in_order? ws) 0 n t k (omega arith) (omega arith)))
      (λ t. T-all (in_order? ws) 0 n (λ k a b. in_order t k (omega arith))))

-- ---- one configuration, as the code met it
module _ (ws : List ℕ) (k : ℕ) {c : Packed} (e : c ≡ packed_at ws k) {r : Bool} (f : r ≡ fits? c) where
  pub unfit : not r ≡ true → in_order? ws k ≡ false
  unfolding in_order?
  unfit n = go r f n
    where
      go : (r : Bool) → r ≡ fits? c → not r ≡ true → (fits? (packed_at ws k) && above? ws k) ≡ false
      go true q n = clash (cc)
      go false q n = ap (λ (b : Bool). b && above? ws k) (ap fits? (sym e) ∙ sym q)

  pub fit : not r ≡ false → T (fits? (packed_at ws k))
  fit n = go r f n
    where
      go : (r : Bool) → r ≡ fits? c → not r ≡ false → T (fits? (packed_at ws k))
      go true q n = rw (← e, ← q) tt
      go false q n = clash (cc)

  pub first : not r ≡ false → k ≡ 0 → in_order? ws k ≡ true
  unfolding in_order? above?
  first n z = rw (T→true (fits? (packed_at ws k)) (fit n), z) refl

  module _ (n : not r ≡ false) {j : ℕ} (z : suc j ≡ k) {d : Packed} (g : d ≡ packed_at ws j) {b : Bool}
      (q : b ≡ ltb (key (config_of d)) (key (config_of c))) where
    above-is : above? ws k ≡ b
    unfolding above? config_at
    above-is =
        let y : k - 1 ≡ j = omega arith in
        let there : packed_at ws (k - 1) ≡ d = ap (packed_at ws) y ∙ sym g in
        let here : packed_at ws k ≡ c = sym e in
        ap (λ (b : Bool). b || ltb (key (config_at ws (k - 1))) (key (config_at ws k))) (ne_eqb k 0 (λ e. omega arith))
        ∙ (λ i. ltb (key (config_of (there i))) (key (config_of (here i)))) ∙ sym q

    pub below : not b ≡ true → in_order? ws k ≡ false
    unfolding in_order?
    below h = go b above-is h
      where
        go : (b : Bool) → above? ws k ≡ b → not b ≡ true → (fits? (packed_at ws k) && above? ws k) ≡ false
        go true q n = clash (cc)
        go false q n = rw q (and_none (fits? (packed_at ws k)))

    pub above : not b ≡ false → in_order? ws k ≡ true
    unfolding in_order?
    above h = go b above-is h
      where
        go : (b : Bool) → above? ws k ≡ b → not b ≡ false → (fits? (packed_at ws k) && above? ws k) ≡ true
        go true q y = rw (q, T→true (fits? (packed_at ws k)) (fit n)) refl
        go false q y = clash (cc)

-- those so far fit
abbrev pub FitBelow : List ℕ → ℕ → Type 0
FitBelow ws k = (j : ℕ) → j < k → T (fits? (packed_at ws j))

pub fit_next : (ws : List ℕ) (k : ℕ) → FitBelow ws k → T (fits? (packed_at ws k)) → FitBelow ws (k + 1)
fit_next ws k h t j l = go (dec_lt j k)
  where
    go : Dec (j < k) → T (fits? (packed_at ws j))
    go (yes y) = h j y
    go (no y) = let z : j ≡ k = omega arith in rw z t

-- and so each is exact
pub exact-fit : (ws : List ℕ) (k : ℕ) {c : Packed} → c ≡ packed_at ws k → T (fits? (packed_at ws k)) → Exact c
exact-fit ws k e t = subst Exact (sym e) (fits-T (packed_at ws k) t).exact
