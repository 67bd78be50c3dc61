-- Some nonterminal can always be placed next: otherwise each one without a place would have a left corner without a place, and following these
-- would lead back to one of them, which would be left recursive.
use mathlib.Core.Path.{◌≡◌, refl, ap}
use mathlib.Core.Logic.{◌⊎◌, inl, inr, ⊎_elim}
use mathlib.Core.Bool.{Bool, true, false}
use mathlib.Core.List.Memᴰ
use mathlib.Core.List.{List, [], ◌∷◌, Memᴰ}
use Prim.Native.Nat.{ℕ, zero, suc, ◌<◌}
use native.Mathlib.Omega.{arith}
use lib.Dec.{T}
use lib.ListN.{length}
use Rattle.base.specs.Bits.{test_bit, is_subset}
use Rattle.base.proofs.Bits.{same?, subset_iff}
use Rattle.base.proofs.Booleans.{true→T, false→¬T}
use Rattle.grammar.specs.Grammar.{Grammar, of_places}
use Rattle.grammar.specs.inside.Tables.{grammar_in, nonterminals_in, corner_row}
use Rattle.closures.specs.Textbook.{Move, Reaches, one, LeftRecursive}
use Rattle.corners.specs.Corners.{Cornered}
use Rattle.corners.proofs.LeftRecursion.{move-iff, move-to, reaches-trans}
use Rattle.base.specs.Lists.{Distinct, nil, also}
use Rattle.derivation.proofs.Pigeon.{pigeon}
use Rattle.derivation.specs.inside.Ready.{Ready}
use Rattle.order.specs.inside.Placing.{ripe_of}

-- ---- two sets: the first lies in the second as far as k, or something below k is missing
abbrev Missing : ℕ → ℕ → ℕ → Type 0
Missing x y k = (c : ℕ) × (c < k) × T (test_bit x c) × (test_bit y c ≡ false)

abbrev Within : ℕ → ℕ → ℕ → Type 0
Within x y k = (c : ℕ) → c < k → T (test_bit x c) → T (test_bit y c)

look : (x y k : ℕ) → Within x y k ⊎ Missing x y k
look x y zero = inl (λ c h. absurd (omega arith))
look x y (suc k) = more (look x y k)
  where
    at-k : Within x y k → (a b : Bool) → test_bit x k ≡ a → test_bit y k ≡ b → Within x y (suc k) ⊎ Missing x y (suc k)
    at-k w a true p q = inl (λ c h t. ⊎_elim (λ e. rw e (true→T (test_bit y k) q)) (λ n. w c (omega arith) t) (same? c k))
    at-k w true false p q = inr (k, omega arith, true→T (test_bit x k) p, q)
    at-k w false false p q = inl (λ c h t. ⊎_elim (λ e. absurd (false→¬T (test_bit x k) p (rw e at t))) (λ n. w c (omega arith) t) (same? c k))

    more : Within x y k ⊎ Missing x y k → Within x y (suc k) ⊎ Missing x y (suc k)
    more (inl w) = at-k w (test_bit x k) (test_bit y k) refl refl
    more (inr (c, h, t, e)) = inr (c, omega arith, t, e)

-- ---- nonterminals that lead to h, no two alike: they can be followed for ever if each has a next one
module _ (g : Grammar) (n : ℕ) (Free : ℕ → Type 0) (straight : (a : ℕ) → ¬ LeftRecursive (of_places g) a)
    (next : (a : ℕ) → a < n → Free a → (c : ℕ) × (c < n) × Free c × Move (of_places g) a c) where
  record Chain (k h : ℕ) : Type 0 where
    list : List ℕ
    distinct : Distinct list
    long : length list ≡ k
    below : (x : ℕ) → Memᴰ x list → x < n
    leads : (x : ℕ) → Memᴰ x list → Reaches (of_places g) x h
    free : Free h
    inside : h < n

  chain_more : (k h : ℕ) → Chain k h → (c : ℕ) × Chain (suc k) c
  chain_more k h x = go (next h x.inside x.free)
    where
      go : (c : ℕ) × (c < n) × Free c × Move (of_places g) h c → (c : ℕ) × Chain (suc k) c
      go (c, l, f, m) = (
        c,
        record {
          list = h ∷ x.list;
          distinct = also (λ y. straight h (x.leads h y)) x.distinct;
          long = ap suc x.long;
          below = λ z y. ⊎_elim (λ e. rw e x.inside) (λ w. x.below z w) (Memᴰ.cases_cons y);
          leads = λ z y. ⊎_elim (λ e. rw e (one m)) (λ w. reaches-trans (x.leads z w) (one m)) (Memᴰ.cases_cons y);
          free = f;
          inside = l;
        },
      )

  chain : (a : ℕ) → a < n → Free a → (k : ℕ) → (h : ℕ) × Chain k h
  chain a l f zero = (
    a,
    record {
      list = [];
      distinct = nil;
      long = refl;
      below = λ x m. absurd (Memᴰ.not-nil m);
      leads = λ x m. absurd (Memᴰ.not-nil m);
      free = f;
      inside = l;
    },
  )
  chain a l f (suc k) = let (h, x) = chain a l f k in chain_more k h x

  no-chain : (a : ℕ) → a < n → ¬ Free a
  no-chain a l f = let (h, x) = chain a l f (suc n) in let y = pigeon n x.list x.distinct x.below in absurd (omega (arith, x.long))

-- ---- no nonterminal is ripe: then all have a place
module _ (t : List ℕ) (known : Ready t) (set : ℕ) (stuck : (a : ℕ) → a < nonterminals_in t → ripe_of (corner_row t a) set a ≡ false) where
  abbrev Free : ℕ → Type 0
  Free a = test_bit set a ≡ false

  corner : (a c : ℕ) → a < nonterminals_in t → T (test_bit (corner_row t a) c) → Move (of_places (grammar_in t)) a c
  unfolding Cornered
  corner a c h x = (move-iff (grammar_in t) a c).0 (rw (known.corners a c h) at x)

  corner-named : (a c : ℕ) → a < nonterminals_in t → T (test_bit (corner_row t a) c) → c < nonterminals_in t
  corner-named a c h x = let (p, e) = move-to (grammar_in t) (corner a c h x) in known.fits.named p c e

  not-under : (a : ℕ) → a < nonterminals_in t → Free a → is_subset (corner_row t a) set ≡ false
  unfolding ripe_of
  not-under a h f = rw f at (stuck a h)

  next : (a : ℕ) → a < nonterminals_in t → Free a → (c : ℕ) × (c < nonterminals_in t) × Free c × Move (of_places (grammar_in t)) a c
  next a h f = go (look (corner_row t a) set (nonterminals_in t))
    where
      go : Within (corner_row t a) set (nonterminals_in t) ⊎ Missing (corner_row t a) set (nonterminals_in t)
          → (c : ℕ) × (c < nonterminals_in t) × Free c × Move (of_places (grammar_in t)) a c
      go (inl w) =
          absurd (false→¬T (is_subset (corner_row t a) set) (not-under a h f) ((subset_iff (corner_row t a) set).1 (λ c x. w c (corner-named a c h x) x)))
      go (inr (c, l, x, e)) = (c, l, e, corner a c h x)

  straight : (a : ℕ) → ¬ LeftRecursive (of_places (grammar_in t)) a
  straight = rw known.says known.straight

  pub stuck-full : (a : ℕ) → a < nonterminals_in t → T (test_bit set a)
  stuck-full a h = go (test_bit set a) refl
    where
      go : (b : Bool) → test_bit set a ≡ b → T (test_bit set a)
      go true e = true→T (test_bit set a) e
      go false e = absurd (no-chain (grammar_in t) (nonterminals_in t) Free straight next a h e)
