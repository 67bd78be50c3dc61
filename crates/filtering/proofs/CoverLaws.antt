-- D2, the upper half: whatever the note reaches, the search came as far. What the filter drops can't read the next token.
use mathlib.Core.Path.{◌≡◌, refl}
use mathlib.Core.Logic.{◌⊎◌, inl, inr}
use mathlib.Core.Bool.{Bool, true, false}
use mathlib.Core.Option.{some}
use mathlib.Core.List.{List}
use Prim.Native.Nat.{ℕ, suc, ◌≤◌, ◌<◌}
use native.Mathlib.Omega.{arith}
use native.Mathlib.Decide.{dec_lt}
use lib.Dec.{T}
use Rattle.base.proofs.Booleans.{true→T, false→¬T}
use Rattle.grammar.specs.declared.Symbol.TheVariants.{Nonterminal}
use Rattle.grammar.specs.Grammar.{Grammar, facing, first}
use Rattle.grammar.specs.inside.Ordered.{Ordered}
use Rattle.derivation.specs.inside.BigSteps.{Der}
use Rattle.derivation.specs.inside.Reach.{Reach, start, match, call, return}
use Rattle.derivation.proofs.RunLaws.{der-le}
use Rattle.first_follow.specs.inside.Masks.{Masks, Closed}
use Rattle.first_follow.specs.FirstFollow.{here}
use Rattle.filtering.specs.inside.Beginnings.{Begins, token_at}
use Rattle.filtering.specs.inside.Filtered.{Over}
use Rattle.filtering.specs.inside.Cover.{Walks, on, Asked, Covered}
use Rattle.filtering.proofs.StartLaws.{admits-at, der-null, der-begins, begins-over, begins-start, begins-follow}
use Rattle.filtering.proofs.FilterLaws.{der-filter}

-- some walk of a pair that is worked out comes to place q at k
abbrev Live : Grammar → Masks → List ℕ → (ℕ → ℕ → Bool) → ℕ → ℕ → Type 0
Live g M w done q k = (a : ℕ) × (i : ℕ) × (b : ℕ) × (f : ℕ) × T (done a i) × (first g a b ≡ some f) × Walks g M w f i q k

-- nothing that place q leaves begins with the token at k
abbrev Dead : Grammar → Masks → List ℕ → ℕ → ℕ → Type 0
Dead g M w q k = ¬ Begins g M (token_at w k) q

module _ {g : Grammar} {M : Masks} {w : List ℕ} (order : Ordered g) (c : Closed g M) (done : ℕ → ℕ → Bool) (high : ℕ)
    (cover : Covered g M w done high) where
  live_in : {q k : ℕ} → Live g M w done q k → k ≤ high
  live_in {q} {k} (a, i, b, f, t, d, x) = (cover a i b f t d).within q k x

  live-asked : {q k : ℕ} (n : ℕ) → Live g M w done q k → facing g q ≡ Nonterminal n → Asked M w done n k
  live-asked {q} {k} n (a, i, b, f, t, d, x) e = (cover a i b f t d).asked q k n x e

  live-over : {q k m : ℕ} → Live g M w done q k → Over g M w q k m → Live g M w done (suc q) m
  live-over (a, i, b, f, t, d, x) o = (a, i, b, f, t, d, on x o)

  live-first : (a i b f : ℕ) → T (done a i) → first g a b ≡ some f → Live g M w done f i
  live-first a i b f t d = (a, i, b, f, t, d, Walks.here)

  -- a production that derives a stretch: its end is one of the pair's, or what stands behind the call can't read the token there
  call_ends : {f i m : ℕ} {r : List ℕ} (p a b : ℕ) → facing g p ≡ Nonterminal a → first g a b ≡ some f → Der g w f i m r
      → Over g M w p i m ⊎ Dead g M w (suc p) m
  call_ends {f} {i} {m} {r} p a b e d x = go (M.follows (token_at w m) a) refl
    where
      go : (v : Bool) → M.follows (token_at w m) a ≡ v → Over g M w p i m ⊎ Dead g M w (suc p) m
      go true q =
          let h = true→T (M.follows (token_at w m) a) q in
          inl (Over.call e (b, (f, d, (r, der-filter order c x (rw (order.owns a b f d) h)), h)))
      go false q = inr (λ s. false→¬T (M.follows (token_at w m) a) q (begins-follow c e s))

  -- a place that can't read the next token derives nothing
  dead-stays : {p m j : ℕ} {r : List ℕ} → Dead g M w p m → Der g w p m j r → m ≡ j
  dead-stays {p} {m} {j} n y = go (dec_lt m j)
    where
      go : Dec (m < j) → m ≡ j
      go (yes l) = absurd (n (der-begins c y l))
      go (no l) = let h = der-le y in omega arith

  -- neither does a production of a nonterminal that doesn't start with it
  start-stays : {f i m : ℕ} {r : List ℕ} (a b : ℕ) → ¬ T (M.starts (token_at w i) a) → first g a b ≡ some f → Der g w f i m r → i ≡ m
  start-stays a b n d x = dead-stays (λ s. n (begins-start a b c d s)) x

  -- ---- a derivation from a walked point does not come behind
  live-der : {p i j : ℕ} {r : List ℕ} → Der g w p i j r → Live g M w done p i → j ≤ high
  live-der (Der.finish e l) v = live_in v
  live-der (Der.match e d t x) v = live-der x (live-over v (Over.token e d t))
  live-der (Der.expand {p = p} {a = a} {b = b} {f = f} {i = i} {m = m} {j = j} e d x y) v =
      go (call_ends p a b e d x) (first_part (live-asked a v e) (λ u. live-der x u)) (λ u. live-der y u)
    where
      first_part : Asked M w done a i → (Live g M w done f i → m ≤ high) → m ≤ high
      first_part (inl t) rec = rec (live-first a i b f t d)
      first_part (inr n) rec = let z = start-stays a b n d x in let h = live_in v in omega arith

      go : Over g M w p i m ⊎ Dead g M w (suc p) m → m ≤ high → (Live g M w done (suc p) m → j ≤ high) → j ≤ high
      go (inl o) h rec = rec (live-over v o)
      go (inr n) h rec = let z = dead-stays n y in omega arith

  -- ---- what is reached is walked, or can't read the next token; and it is not behind
  abbrev Found : ℕ → ℕ → Type 0
  Found q k = (k ≤ high) × (Live g M w done q k ⊎ Dead g M w q k)

  found-live : {q k : ℕ} → Live g M w done q k → Found q k
  found-live v = (live_in v, inl v)

  found_first : (a i b f : ℕ) → i ≤ high → first g a b ≡ some f → Asked M w done a i → Found f i
  found_first a i b f l d (inl t) = found-live (live-first a i b f t d)
  found_first a i b f l d (inr n) = (l, inr (λ s. n (begins-start a b c d s)))

  pub reach-found : Asked M w done 0 0 → {q k : ℕ} → Reach g w q k → Found q k
  reach-found asked (start {f = f} b e) = found_first 0 0 b f (omega arith) e asked
  reach-found asked (match {p = p} {k = k} {i = i} x e d t) = go (reach-found asked x)
    where
      go : Found p i → Found (suc p) (suc i)
      go (l, inl v) = found-live (live-over v (Over.token e d t))
      go (l, inr n) = absurd (n (Begins.token here e (admits-at g w i k d t)))
  reach-found asked (call {p = p} {a = a} {f = f} {i = i} b x e d) = go (reach-found asked x)
    where
      go : Found p i → Found f i
      go (l, inl v) = found_first a i b f l d (live-asked a v e)
      go (l, inr n) = (l, inr (λ s. n (Begins.call here e (begins-start a b c d s))))
  reach-found asked (return {p = p} {a = a} {f = f} {i = i} {m = m} b x e d z) = go (reach-found asked x)
    where
      far : Live g M w done p i → Asked M w done a i → m ≤ high
      far v (inl t) = live-der z (live-first a i b f t d)
      far v (inr n) = let y = start-stays a b n d z in let h = live_in v in omega arith

      behind : Live g M w done p i → Over g M w p i m ⊎ Dead g M w (suc p) m → Found (suc p) m
      behind v (inl o) = found-live (live-over v o)
      behind v (inr n) = (far v (live-asked a v e), inr n)

      dead : i ≤ high → Dead g M w p i → Found (suc p) m
      dead l n =
          let y : i ≡ m = start-stays a b (λ t. n (Begins.call here e t)) d z in
          (omega arith, inr (λ s. n (begins-over e (der-null a b z d y) (rw (← y) at s))))

      go : Found p i → Found (suc p) m
      go (l, inl v) = behind v (call_ends p a b e d z)
      go (l, inr n) = dead l n
