-- The tests on the words of kept configurations: no bit too many, all numbers in range, in ascending order.
use mathlib.Core.Path.{◌≡◌, refl, sym, subst}
use mathlib.Core.Logic.{◌⊎◌, inl, inr}
use mathlib.Core.Bool.{◌&&◌}
use mathlib.Core.List.Memᴰ
use mathlib.Core.List.{List, [], ◌∷◌}
use Prim.Native.Nat.{ℕ, ◌<◌}
use native.Mathlib.Omega.{arith}
use lib.Dec.{T, ltb, leb, ltb→lt, lt→ltb, leb→le, le→leb}
use lib.ListN.{length}
use Rattle.base.proofs.Booleans.{and_T, T_and}
use Rattle.grammar.specs.Limits.{max_productions}
use Rattle.lookahead.specs.Configs.{Config, In}
use Rattle.lookahead.specs.Closing.{max_entries, same_list}
use Rattle.lookahead.specs.Order.{past_end, key, Packable, Ascending, none, next}
use Rattle.lookahead.specs.Rules.{Each}
use Rattle.lookahead.proofs.AddLaws.{same-list, list_same}
use Rattle.configurations.specs.Packing.{storable?, pack_all, unpack_all}
use Rattle.configurations.proofs.UnpackLaws.{unpacked}
use Rattle.cache.specs.Coherent.{Storable}
use Rattle.auditing.specs.Coherence.{ascending?, storable_all?, kept?}

-- ---- in ascending order: each below the next is each below all that follow
below : (c d : Config) (l : List Config) → key c < key d → T (ascending? (d ∷ l)) → (x : Config) → In x (d ∷ l) → key c < key x
unfolding ascending?
below c d [] h t x m = go (Memᴰ.cases_cons m)
  where
    go : (x ≡ d) ⊎ In x [] → key c < key x
    go (inl e) = rw e h
    go (inr i) = absurd (Memᴰ.not-nil i)
below c d (e ∷ l) h t x m =
    let p = and_T (ltb (key d) (key e)) (ascending? (e ∷ l)) t in
    let k = ltb→lt (key d) (key e) p.0 in
    go (Memᴰ.cases_cons m) (below c e l (omega arith) p.1 x)
  where
    go : (x ≡ d) ⊎ In x (e ∷ l) → (In x (e ∷ l) → key c < key x) → key c < key x
    go (inl e) rec = rw e h
    go (inr i) rec = rec i

pub ascending-T : (ks : List Config) → T (ascending? ks) → Ascending ks
unfolding ascending?
ascending-T [] t = none
ascending-T (c ∷ []) t = next (λ d m. absurd (Memᴰ.not-nil m)) none
ascending-T (c ∷ d ∷ l) t =
    let p = and_T (ltb (key c) (key d)) (ascending? (d ∷ l)) t in
    next (below c d l (ltb→lt (key c) (key d) p.0) p.1) (ascending-T (d ∷ l) p.1)

T-next : (c : Config) (l : List Config) → ((d : Config) → In d l → key c < key d) → T (ascending? l) → T (ascending? (c ∷ l))
unfolding ascending?
T-next c [] h t = tt
T-next c (d ∷ l) h t = T_and (ltb (key c) (key d)) (ascending? (d ∷ l)) (lt→ltb (key c) (key d) (h d (Memᴰ.head refl))) t

pub T-ascending : {ks : List Config} → Ascending ks → T (ascending? ks)
unfolding ascending?
T-ascending none = tt
T-ascending (next {c = c} {l = l} h a) = T-next c l h (T-ascending a)

-- ---- numbers in range
storable-T : (k : Config) → Packable k → T (storable? k) → Storable k
unfolding storable?
storable-T k f t =
    let p = and_T (leb k.place past_end) (leb 1 k.alternative && (leb k.alternative max_productions && leb (length k.stack) max_entries)) t in
    let q = and_T (leb 1 k.alternative) (leb k.alternative max_productions && leb (length k.stack) max_entries) p.1 in
    let r = and_T (leb k.alternative max_productions) (leb (length k.stack) max_entries) q.1 in
    record {
      place = leb→le k.place past_end p.0;
      least = leb→le 1 k.alternative q.0;
      most = leb→le k.alternative max_productions r.0;
      entries = leb→le (length k.stack) max_entries r.1;
      returns = f.returns;
    }

T-storable : (k : Config) → Storable k → T (storable? k)
unfolding storable?
T-storable k f =
    T_and (leb k.place past_end) (leb 1 k.alternative && (leb k.alternative max_productions && leb (length k.stack) max_entries))
    (le→leb k.place past_end f.place)
    (T_and (leb 1 k.alternative) (leb k.alternative max_productions && leb (length k.stack) max_entries) (le→leb 1 k.alternative f.least)
    (T_and (leb k.alternative max_productions) (leb (length k.stack) max_entries) (le→leb k.alternative max_productions f.most)
    (le→leb (length k.stack) max_entries f.entries)))

-- of all
pub storable-all : (ks : List Config) → Each Packable ks → T (storable_all? ks) → Each Storable ks
unfolding storable_all?
storable-all [] f t k m = absurd (Memᴰ.not-nil m)
storable-all (c ∷ l) f t k m =
    let p = and_T (storable? c) (storable_all? l) t in
    go p.0 (Memᴰ.cases_cons m) (storable-all l (λ k m. f k (Memᴰ.tail m)) p.1 k)
  where
    go : T (storable? c) → (k ≡ c) ⊎ In k l → (In k l → Storable k) → Storable k
    go t (inl e) rec = subst Storable (sym e) (storable-T c (f c (Memᴰ.head refl)) t)
    go t (inr i) rec = rec i

pub all-storable : (ks : List Config) → Each Storable ks → T (storable_all? ks)
unfolding storable_all?
all-storable [] f = tt
all-storable (c ∷ l) f =
    T_and (storable? c) (storable_all? l) (T-storable c (f c (Memᴰ.head refl))) (all-storable l (λ k m. f k (Memᴰ.tail m)))

-- ---- the words of kept configurations
pub record Keeps (ws : List ℕ) : Type 0 where
  pub packed : ws ≡ pack_all (unpack_all ws)
  pub fitting : Each Storable (unpack_all ws)
  pub ascending : Ascending (unpack_all ws)

pub kept-T : (ws : List ℕ) → T (kept? ws) → Keeps ws
unfolding kept?
kept-T ws t =
    let ks = unpack_all ws in
    let p = and_T (same_list ws (pack_all ks)) (storable_all? ks && ascending? ks) t in
    let q = and_T (storable_all? ks) (ascending? ks) p.1 in
    record { packed = same-list ws (pack_all ks) p.0; fitting = storable-all ks (unpacked ws) q.0; ascending = ascending-T ks q.1 }

pub T-kept : (ws : List ℕ) → Keeps ws → T (kept? ws)
unfolding kept?
T-kept ws h =
    let ks = unpack_all ws in
    let same : T (same_list ws (pack_all ks)) = subst (λ (v : List ℕ). T (same_list ws v)) h.packed (list_same ws) in
    T_and (same_list ws (pack_all ks)) (storable_all? ks && ascending? ks) same
    (T_and (storable_all? ks) (ascending? ks) (all-storable ks h.fitting) (T-ascending h.ascending))
