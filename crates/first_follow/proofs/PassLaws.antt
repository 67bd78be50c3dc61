-- The pass over the places: what is known at a place of those below it, and how each symbol that a place may face carries it one place on.
use mathlib.Core.Path.{◌≡◌, refl, sym}
use mathlib.Core.Logic.{◌⊎◌, inl, inr, ◌↔◌}
use mathlib.Core.Bool.{Bool, true, false, cond}
use mathlib.Core.List.{List}
use Prim.Native.Nat.{ℕ, zero, suc, ◌≤◌, ◌<◌}
use native.Mathlib.Omega.{arith}
use native.Mathlib.Decide.{dec_lt}
use lib.Bits.{bit_or}
use lib.Dec.{T, eqb, eqb→eq, eqb_refl}
use lib.ListN.{length, get_or, set, replicate, length-set, length-replicate}
use lib.Seq.{get_or-set_same, get_or-set_other}
use Rattle.base.specs.Bits.{test_bit, set_bit}
use Rattle.base.proofs.Booleans.{clash, or-T, T-or-l, T-or-r, false→¬T}
use Rattle.base.proofs.Bits.{test-none, test-or, test-set, same?}
use Rattle.grammar.specs.declared.Symbol.{Symbol}
use Rattle.grammar.specs.declared.Symbol.TheVariants.{Token, Nonterminal, End}
use Rattle.grammar.specs.Limits.{max_kinds, max_nonterminals}
use Rattle.grammar.specs.Grammar.{Grammar, facing, owner}
use Rattle.closures.specs.Closures.{nullable?}
use Rattle.first_follow.specs.inside.Words.{start_at, follow_at, mask_words}
use Rattle.first_follow.specs.inside.Steps.{Leading, Open, Noted, Fronts, SetIs, Relations, Gathered, added_of, member_of, token_of}
use Rattle.first_follow.proofs.LinedLaws.{Lined, leading-begins, leading-last}
use Rattle.first_follow.proofs.SkipLaws.{Vanishing, skips-le, leading-on, open-here, open-on, open-last}

-- ---- words as sets
-- w' has the members of w and those that Q tells
abbrev Adds : ℕ → ℕ → (ℕ → Type 0) → Type 0
Adds w w' Q = SetIs w' (λ a. T (test_bit w a) ⊎ Q a)

pub adds-or : (w x : ℕ) → Adds w (bit_or w x) (λ a. T (test_bit x a))
adds-or w x a = (λ t. or-T (test_bit w a) (test_bit x a) (rw (test-or w x a) at t), go)
  where
    go : T (test_bit w a) ⊎ T (test_bit x a) → T (test_bit (bit_or w x) a)
    go (inl t) = rw (test-or w x a) (T-or-l (test_bit w a) (test_bit x a) t)
    go (inr t) = rw (test-or w x a) (T-or-r (test_bit w a) (test_bit x a) t)

pub adds-set : (w b : ℕ) → Adds w (set_bit w b) (λ a. a ≡ b)
adds-set w b a = (λ t. out (or-T (test_bit w a) (eqb a b) (rw (test-set w b a) at t)), go)
  where
    out : T (test_bit w a) ⊎ T (eqb a b) → T (test_bit w a) ⊎ (a ≡ b)
    out (inl t) = inl t
    out (inr t) = inr (eqb→eq a b t)

    go : T (test_bit w a) ⊎ (a ≡ b) → T (test_bit (set_bit w b) a)
    go (inl t) = rw (test-set w b a) (T-or-l (test_bit w a) (eqb a b) t)
    go (inr e) = rw (test-set w b a) (T-or-r (test_bit w a) (eqb a b) (rw e (eqb_refl b)))

adds-if : (w b : ℕ) (lead : Bool) → Adds w (cond lead (set_bit w b) w) (λ a. T lead × (a ≡ b))
adds-if w b true a = (λ t. out ((adds-set w b a).0 t), go)
  where
    out : T (test_bit w a) ⊎ (a ≡ b) → T (test_bit w a) ⊎ (T true × (a ≡ b))
    out (inl t) = inl t
    out (inr e) = inr (tt, e)

    go : T (test_bit w a) ⊎ (T true × (a ≡ b)) → T (test_bit (set_bit w b) a)
    go (inl t) = (adds-set w b a).1 (inl t)
    go (inr h) = (adds-set w b a).1 (inr h.1)
adds-if w b false a = (λ t. inl t, go)
  where
    go : T (test_bit w a) ⊎ (T false × (a ≡ b)) → T (test_bit w a)
    go (inl t) = t
    go (inr h) = absurd h.0

none_in : (k : ℕ) → ¬ T (test_bit 0 k)
none_in k = false→¬T (test_bit 0 k) (test-none k)

-- ---- what is noted below a place
module _ {g : Grammar} (p : ℕ) (s : Symbol) where
  -- the place faces another symbol
  noted_other : (P : ℕ → ℕ → Type 0) (w : ℕ) → ¬ (facing g p ≡ s) → SetIs w (λ a. Noted g p s (P a)) → SetIs w (λ a. Noted g (suc p) s (P a))
  noted_other P w n h a = (λ t. up ((h a).0 t), λ x. (h a).1 (down x))
    where
      up : Noted g p s (P a) → Noted g (suc p) s (P a)
      up x = let l = x.below in record { place = x.place; below = omega arith; faces = x.faces; has = x.has }

      down : Noted g (suc p) s (P a) → Noted g p s (P a)
      down x = go (dec_lt x.place p)
        where
          go : Dec (x.place < p) → Noted g p s (P a)
          go (yes l) = record { place = x.place; below = l; faces = x.faces; has = x.has }
          go (no l) = let k = x.below in let z : x.place ≡ p = omega arith in absurd (n (rw z at x.faces))

  -- the place faces it, and the word is joined by what the place tells
  noted-adds : (P : ℕ → ℕ → Type 0) (w w' : ℕ) → facing g p ≡ s → SetIs w (λ a. Noted g p s (P a)) → Adds w w' (λ a. P a p)
      → SetIs w' (λ a. Noted g (suc p) s (P a))
  noted-adds P w w' e h k a = (λ t. up ((k a).0 t), λ x. (k a).1 (down x))
    where
      up : T (test_bit w a) ⊎ P a p → Noted g (suc p) s (P a)
      up (inl t) = let x = (h a).0 t in let l = x.below in record { place = x.place; below = omega arith; faces = x.faces; has = x.has }
      up (inr y) = record { place = p; below = omega arith; faces = e; has = y }

      down : Noted g (suc p) s (P a) → T (test_bit w a) ⊎ P a p
      down x = go (dec_lt x.place p)
        where
          go : Dec (x.place < p) → T (test_bit w a) ⊎ P a p
          go (yes l) = inl ((h a).1 (record { place = x.place; below = l; faces = x.faces; has = x.has }))
          go (no l) = let k = x.below in let z : x.place ≡ p = omega arith in inr (rw z at x.has)

-- ---- what is known at a place: of those below it, what stands right before it, and whether it stands in front
pub record Passing (g : Grammar) (p : ℕ) (lead : Bool) (ahead : ℕ) (R : Relations) : Type 0 where
  pub gathered : Gathered g p R
  pub lead_is : p < g.size → T lead ↔ Leading g p
  pub ahead-is : SetIs ahead (Open g p)

-- word j after a store at i
pub at_set : (S : ℕ → Type 0) (ws : List ℕ) (i v j : ℕ) → i < length ws → (j ≡ i → S v) → (¬ (j ≡ i) → S (get_or ws j 0)) → S (get_or (set ws i v) j 0)
at_set S ws i v j l h k = go (same? j i)
  where
    go : (j ≡ i) ⊎ (j ≡ i → ⊥) → S (get_or (set ws i v) j 0)
    go (inl e) = rw (e, get_or-set_same ws i v 0 l) (h e)
    go (inr n) = rw (get_or-set_other ws i j v 0 n) (k n)

-- the two words of kind k stored
module _ (ws : List ℕ) (k v u : ℕ) (long : length ws ≡ mask_words) (few : k ≤ max_kinds) where
  abbrev stored : List ℕ
  stored = set (set ws (start_at k) v) (follow_at k) u

  pub stored-start : (S : ℕ → Type 0) (j : ℕ) → (j ≡ k → S v) → (¬ (j ≡ k) → S (get_or ws (start_at j) 0)) → S (get_or stored (start_at j) 0)
  stored-start S j h n =
      rw (get_or-set_other (set ws (start_at k) v) (follow_at k) (start_at j) u 0 (λ e. omega arith))
      (at_set S ws (start_at k) v (start_at j) (omega arith) (λ e. h (omega arith)) (λ m. n (λ e. m (omega arith))))

  pub stored-follow : (S : ℕ → Type 0) (j : ℕ) → (j ≡ k → S u) → (¬ (j ≡ k) → S (get_or ws (follow_at j) 0)) → S (get_or stored (follow_at j) 0)
  stored-follow S j h n =
      at_set S (set ws (start_at k) v) (follow_at k) u (follow_at j) (simp length-set (omega arith)) (λ e. h (omega arith))
      (λ m. rw (get_or-set_other ws (start_at k) (follow_at j) v 0 (λ e. omega arith)) (n (λ e. m (omega arith))))

  stored-long : length stored ≡ mask_words
  stored-long = simp length-set (omega arith)

module _ {g : Grammar} (L : Lined g) where
  -- ---- the symbol that a place faces tells the step
  module _ (p : ℕ) (lead : Bool) (ahead : ℕ) (R : Relations) (h : Passing g p lead ahead R) (l : p < g.size) where
    abbrev G : Gathered g p R
    G = h.gathered

    -- what stands in front here
    front-here : (w : ℕ) → Adds w (cond lead (set_bit w (owner g p)) w) (λ a. Fronts g a p)
    front-here w a = (λ t. up ((adds-if w (owner g p) lead a).0 t), λ x. (adds-if w (owner g p) lead a).1 (down x))
      where
        up : T (test_bit w a) ⊎ (T lead × (a ≡ owner g p)) → T (test_bit w a) ⊎ Fronts g a p
        up (inl t) = inl t
        up (inr y) = inr (sym y.1, (h.lead_is l).0 y.0)

        down : T (test_bit w a) ⊎ Fronts g a p → T (test_bit w a) ⊎ (T lead × (a ≡ owner g p))
        down (inl t) = inl t
        down (inr y) = inr ((h.lead_is l).1 y.1, sym y.0)

    -- what stands right before this place
    open-adds : (w : ℕ) → Adds w (bit_or w ahead) (λ a. Open g p a)
    open-adds w a = (λ t. up ((adds-or w ahead a).0 t), λ x. (adds-or w ahead a).1 (down x))
      where
        up : T (test_bit w a) ⊎ T (test_bit ahead a) → T (test_bit w a) ⊎ Open g p a
        up (inl t) = inl t
        up (inr t) = inr ((h.ahead-is a).0 t)

        down : T (test_bit w a) ⊎ Open g p a → T (test_bit w a) ⊎ T (test_bit ahead a)
        down (inl t) = inl t
        down (inr x) = inr ((h.ahead-is a).1 x)

    last-adds : (x w : ℕ) → x ≡ owner g p → Adds w (bit_or w ahead) (λ a. (owner g p ≡ x) × Open g p a)
    last-adds x w e a = (λ t. up ((open-adds w a).0 t), λ y. (open-adds w a).1 (down y))
      where
        up : T (test_bit w a) ⊎ Open g p a → T (test_bit w a) ⊎ ((owner g p ≡ x) × Open g p a)
        up (inl t) = inl t
        up (inr t) = inr (sym e, t)

        down : T (test_bit w a) ⊎ ((owner g p ≡ x) × Open g p a) → T (test_bit w a) ⊎ Open g p a
        down (inl t) = inl t
        down (inr y) = inr y.1

    last-keeps : (x w : ℕ) → ¬ (x ≡ owner g p) → Adds w w (λ a. (owner g p ≡ x) × Open g p a)
    last-keeps x w n a = (λ t. inl t, down)
      where
        down : T (test_bit w a) ⊎ ((owner g p ≡ x) × Open g p a) → T (test_bit w a)
        down (inl t) = t
        down (inr y) = absurd (n (sym y.0))

    -- nothing stands right before the place behind an end or a token, and behind a token nothing begins
    none_open : ((c : ℕ) → ¬ (facing g p ≡ Nonterminal c)) → SetIs 0 (Open g (suc p))
    none_open n a = (λ t. absurd (none_in a t), λ x. absurd (go (open-last p a x)))
      where
        go : (facing g p ≡ Nonterminal a) ⊎ (Vanishing g p × Open g p a) → ⊥
        go (inl e) = n a e
        go (inr (v, y)) = n v.which v.calls

    none-leads : ¬ (facing g p ≡ End) → ¬ Vanishing g p → T false ↔ Leading g (suc p)
    none-leads n m = (λ t. absurd t, λ x. go (leading-last L p x))
      where
        go : (facing g p ≡ End) ⊎ (Vanishing g p × Leading g p) → ⊥
        go (inl e) = n e
        go (inr (v, y)) = m v

    pub pass-end : facing g p ≡ End
        → Passing g (suc p) true 0 (record { masks = R.masks; above = R.above; before = R.before; last = added_of (owner g p) ahead R.last })
    pass-end e = record {
      gathered = record {
        long = record {
          masks-long = G.long.masks-long;
          above-long = G.long.above-long;
          before-long = G.long.before-long;
          last-long = simp length-set G.long.last-long;
        };
        front-is = λ k m. noted_other p (Token k) (Fronts g) _ (λ z. clash (cc)) (G.front-is k m);
        behind-is = λ k m. noted_other p (Token k) (λ a q. Open g q a) _ (λ z. clash (cc)) (G.behind-is k m);
        above-is = λ c m. noted_other p (Nonterminal c) (Fronts g) _ (λ z. clash (cc)) (G.above-is c m);
        before-is = λ c m. noted_other p (Nonterminal c) (λ a q. Open g q a) _ (λ z. clash (cc)) (G.before-is c m);
        last-is = lasts;
      };
      lead_is = λ m. (λ t. leading-begins L (suc p) m (λ q z. let y : p ≡ q = omega arith in rw y at e), λ x. tt);
      ahead-is = none_open (λ c z. clash (cc));
    }
      where
        lasts : (x : ℕ) → x < max_nonterminals
            → SetIs (get_or (added_of (owner g p) ahead R.last) x 0) (λ a. Noted g (suc p) End (λ q. (owner g q ≡ x) × Open g q a))
        lasts x m =
            at_set (λ w. SetIs w (λ a. Noted g (suc p) End (λ q. (owner g q ≡ x) × Open g q a))) R.last (owner g p)
            (bit_or (get_or R.last (owner g p) 0) ahead) x (let o = L.owned p l in omega (arith, G.long.last-long))
            (λ z. rw (← z) (noted-adds p End (λ a q. (owner g q ≡ x) × Open g q a) (get_or R.last x 0) (bit_or (get_or R.last x 0) ahead) e (G.last-is x m)
            (last-adds x (get_or R.last x 0) z)))
            (λ n. noted-adds p End (λ a q. (owner g q ≡ x) × Open g q a) (get_or R.last x 0) (get_or R.last x 0) e (G.last-is x m)
            (last-keeps x (get_or R.last x 0) n))

    module _ (k : ℕ) (e : facing g p ≡ Token k) (few : k ≤ max_kinds) where
      -- the words of the kind
      abbrev front : ℕ
      front = cond lead (set_bit (get_or R.masks (start_at k) 0) (owner g p)) (get_or R.masks (start_at k) 0)

      abbrev behind : ℕ
      behind = bit_or (get_or (set R.masks (start_at k) front) (follow_at k) 0) ahead

      pub pass-token : Passing g (suc p) false 0
          (record { masks = token_of k (owner g p) lead ahead R.masks; above = R.above; before = R.before; last = R.last })
      pass-token = record {
        gathered = record {
          long = record {
            masks-long = stored-long R.masks k front behind G.long.masks-long few;
            above-long = G.long.above-long;
            before-long = G.long.before-long;
            last-long = G.long.last-long;
          };
          front-is = fronts;
          behind-is = behinds;
          above-is = λ c m. noted_other p (Nonterminal c) (Fronts g) _ (λ z. clash (cc)) (G.above-is c m);
          before-is = λ c m. noted_other p (Nonterminal c) (λ a q. Open g q a) _ (λ z. clash (cc)) (G.before-is c m);
          last-is = λ x m. noted_other p End (λ a q. (owner g q ≡ x) × Open g q a) _ (λ z. clash (cc)) (G.last-is x m);
        };
        lead_is = λ m. none-leads (λ z. clash (cc)) (λ v. let c = v.calls in clash (cc));
        ahead-is = none_open (λ c z. clash (cc));
      }
        where
          other : (j : ℕ) → ¬ (j ≡ k) → ¬ (facing g p ≡ Token j)
          other j n z = n (cc)

          fronts : (j : ℕ) → j ≤ max_kinds
              → SetIs (get_or (token_of k (owner g p) lead ahead R.masks) (start_at j) 0) (λ a. Noted g (suc p) (Token j) (Fronts g a))
          fronts j m =
              stored-start R.masks k front behind G.long.masks-long few (λ w. SetIs w (λ a. Noted g (suc p) (Token j) (Fronts g a))) j
              (λ z. rw z (noted-adds p (Token k) (Fronts g) _ front e (G.front-is k few) (front-here (get_or R.masks (start_at k) 0))))
              (λ n. noted_other p (Token j) (Fronts g) _ (other j n) (G.front-is j m))

          behinds : (j : ℕ) → j ≤ max_kinds
              → SetIs (get_or (token_of k (owner g p) lead ahead R.masks) (follow_at j) 0) (λ a. Noted g (suc p) (Token j) (λ q. Open g q a))
          behinds j m =
              stored-follow R.masks k front behind G.long.masks-long few (λ w. SetIs w (λ a. Noted g (suc p) (Token j) (λ q. Open g q a))) j
              (λ z. rw (z, get_or-set_other R.masks (start_at k) (follow_at k) front 0 (λ y. omega arith))
              (noted-adds p (Token k) (λ a q. Open g q a) _ (bit_or (get_or R.masks (follow_at k) 0) ahead) e (G.behind-is k few)
              (open-adds (get_or R.masks (follow_at k) 0))))
              (λ n. noted_other p (Token j) (λ a q. Open g q a) _ (other j n) (G.behind-is j m))

    module _ (b : ℕ) (e : facing g p ≡ Nonterminal b) where
      -- the rows of a nonterminal that is called
      abbrev called : Relations
      called = record { masks = R.masks; above = member_of b (owner g p) lead R.above; before = added_of b ahead R.before; last = R.last }

      call-gathered : Gathered g (suc p) called
      call-gathered = record {
        long = record {
          masks-long = G.long.masks-long;
          above-long = simp length-set G.long.above-long;
          before-long = simp length-set G.long.before-long;
          last-long = G.long.last-long;
        };
        front-is = λ k m. noted_other p (Token k) (Fronts g) _ (λ z. clash (cc)) (G.front-is k m);
        behind-is = λ k m. noted_other p (Token k) (λ a q. Open g q a) _ (λ z. clash (cc)) (G.behind-is k m);
        above-is = aboves;
        before-is = befores;
        last-is = λ x m. noted_other p End (λ a q. (owner g q ≡ x) × Open g q a) _ (λ z. clash (cc)) (G.last-is x m);
      }
        where
          small : b < max_nonterminals
          small = let h = L.named p b e in let k = L.few in omega arith

          other : (c : ℕ) → ¬ (c ≡ b) → ¬ (facing g p ≡ Nonterminal c)
          other c n z = n (cc)

          aboves : (c : ℕ) → c < max_nonterminals → SetIs (get_or called.above c 0) (λ a. Noted g (suc p) (Nonterminal c) (Fronts g a))
          aboves c m =
              at_set (λ w. SetIs w (λ a. Noted g (suc p) (Nonterminal c) (Fronts g a))) R.above b
              (cond lead (set_bit (get_or R.above b 0) (owner g p)) (get_or R.above b 0)) c (omega (arith, small, G.long.above-long))
              (λ z. rw z (noted-adds p (Nonterminal b) (Fronts g) _ _ e (G.above-is b small) (front-here (get_or R.above b 0))))
              (λ n. noted_other p (Nonterminal c) (Fronts g) _ (other c n) (G.above-is c m))

          befores : (c : ℕ) → c < max_nonterminals → SetIs (get_or called.before c 0) (λ a. Noted g (suc p) (Nonterminal c) (λ q. Open g q a))
          befores c m =
              at_set (λ w. SetIs w (λ a. Noted g (suc p) (Nonterminal c) (λ q. Open g q a))) R.before b (bit_or (get_or R.before b 0) ahead) c
              (omega (arith, small, G.long.before-long))
              (λ z. rw z (noted-adds p (Nonterminal b) (λ a q. Open g q a) _ _ e (G.before-is b small) (open-adds (get_or R.before b 0))))
              (λ n. noted_other p (Nonterminal c) (λ a q. Open g q a) _ (other c n) (G.before-is c m))

      -- it derives the empty row: what stands before it stands right before the next place as well
      pub pass-over : T (nullable? g b) → Passing g (suc p) lead (set_bit ahead b) called
      pass-over n = record {
        gathered = call-gathered;
        lead_is = λ m. (λ t. leading-on ((h.lead_is l).0 t) here-vanishes, λ x. (h.lead_is l).1 (led (leading-last L p x)));
        ahead-is = λ a. (λ t. up a ((adds-set ahead b a).0 t), λ x. (adds-set ahead b a).1 (down a (open-last p a x)));
      }
        where
          here-vanishes : Vanishing g p
          here-vanishes = record { which = b; calls = e; empty = n }

          led : (facing g p ≡ End) ⊎ (Vanishing g p × Leading g p) → Leading g p
          led (inl z) = clash (cc)
          led (inr (v, x)) = x

          up : (a : ℕ) → T (test_bit ahead a) ⊎ (a ≡ b) → Open g (suc p) a
          up a (inl t) = open-on ((h.ahead-is a).0 t) here-vanishes
          up a (inr z) = open-here p a (rw z e)

          down : (a : ℕ) → (facing g p ≡ Nonterminal a) ⊎ (Vanishing g p × Open g p a) → T (test_bit ahead a) ⊎ (a ≡ b)
          down a (inl z) = inr (cc)
          down a (inr (v, x)) = inl ((h.ahead-is a).1 x)

      -- it does not: nothing stands in front behind it, and it alone stands right before the next place
      pub pass-stop : ¬ T (nullable? g b) → Passing g (suc p) false (set_bit 0 b) called
      pass-stop n = record {
        gathered = call-gathered;
        lead_is = λ m. none-leads (λ z. clash (cc)) stays;
        ahead-is = λ a. (λ t. up a ((adds-set 0 b a).0 t), λ x. (adds-set 0 b a).1 (down a (open-last p a x)));
      }
        where
          stays : ¬ Vanishing g p
          stays v = let c = v.calls in let z : v.which ≡ b = cc in n (rw z at v.empty)

          up : (a : ℕ) → T (test_bit 0 a) ⊎ (a ≡ b) → Open g (suc p) a
          up a (inl t) = absurd (none_in a t)
          up a (inr z) = open-here p a (rw z e)

          down : (a : ℕ) → (facing g p ≡ Nonterminal a) ⊎ (Vanishing g p × Open g p a) → T (test_bit 0 a) ⊎ (a ≡ b)
          down a (inl z) = inr (cc)
          down a (inr (v, x)) = absurd (stays v)

  -- ---- the ends of the pass
  pub pass-begin : (R : Relations) → Gathered g 0 R → Passing g 0 true 0 R
  pass-begin R h = record {
    gathered = h;
    lead_is = λ l. (λ t. leading-begins L 0 l (λ q z. absurd (omega arith)), λ x. tt);
    ahead-is = λ a. (λ t. absurd (none_in a t), λ x. absurd (let m = skips-le x.skips in omega arith));
  }

-- words that are all 0 say it of no places
pub gather_none : (g : Grammar) (R : Relations) → R.masks ≡ replicate mask_words 0 → R.above ≡ replicate max_nonterminals 0
    → R.before ≡ replicate max_nonterminals 0 → R.last ≡ replicate max_nonterminals 0 → Gathered g 0 R
gather_none g R m a b l = record {
  long = record {
    masks-long = rw (m, length-replicate {A = ℕ} mask_words 0);
    above-long = rw (a, length-replicate {A = ℕ} max_nonterminals 0);
    before-long = rw (b, length-replicate {A = ℕ} max_nonterminals 0);
    last-long = rw (l, length-replicate {A = ℕ} max_nonterminals 0);
  };
  front-is = λ k z. none R.masks mask_words (start_at k) m (Token k) (Fronts g);
  behind-is = λ k z. none R.masks mask_words (follow_at k) m (Token k) (λ a q. Open g q a);
  above-is = λ c z. none R.above max_nonterminals c a (Nonterminal c) (Fronts g);
  before-is = λ c z. none R.before max_nonterminals c b (Nonterminal c) (λ a q. Open g q a);
  last-is = λ x z. none R.last max_nonterminals x l End (λ a q. (owner g q ≡ x) × Open g q a);
}
  where
    zero_in : (n i : ℕ) → ◌≡◌ {A = ℕ} (get_or (replicate n 0) i 0) 0
    zero_in zero i = refl
    zero_in (suc n) zero = refl
    zero_in (suc n) (suc i) = zero_in n i

    none : (ws : List ℕ) (n i : ℕ) → ws ≡ replicate n 0 → (s : Symbol) (P : ℕ → ℕ → Type 0) → SetIs (get_or ws i 0) (λ a. Noted g 0 s (P a))
    none ws n i e s P a = rw (e, zero_in n i) (λ t. absurd (none_in a t), λ x. absurd (let k = x.below in omega arith))
