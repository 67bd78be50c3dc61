-- How deep the machine's stack can be on a grammar without left recursion, whatever alternatives are chosen and whatever the note is: the entries that
-- wait are pairwise distinct, so counting them counts frames. A nonterminal and a position as one number give N · (n + 1), too many for the working
-- space where N is near P. Half the place of the call and the position give ⌈P / 2⌉ · (n + 1), which always fits: two calls with the same half stand
-- side by side, so they belong to one nonterminal.
use mathlib.Core.Path.{◌≡◌, refl, sym, ap, ◌∙◌}
use mathlib.Core.Logic.{◌⊎◌, inl, inr}
use mathlib.Core.Option.{some}
use mathlib.Core.List.Memᴰ
use mathlib.Core.List.{List, [], ◌∷◌, ◌++◌, map, Memᴰ}
use Prim.Native.Nat.{ℕ, zero, suc, ◌+◌, ◌*◌, ◌/◌, ◌≤◌, ◌<◌}
use native.Mathlib.Nat.{mul-le-mul_right}
use native.Mathlib.Omega.{arith}
use native.Mathlib.Decide.{dec_le}
use lib.Dec.{T}
use lib.ListN.{length, get_elem?, length-map}
use Rattle.base.proofs.Booleans.{clash}
use Rattle.grammar.specs.declared.Symbol.TheVariants.{Token, Nonterminal}
use Rattle.grammar.specs.Limits.{end_place, end_mark}
use Rattle.grammar.specs.Grammar.{Grammar, facing, owner, admits, first, of_places}
use Rattle.grammar.specs.inside.Ordered.{Ordered}
use Rattle.closures.specs.Textbook.{LeftRecursive}
use Rattle.derivation.specs.inside.Steps.{Steps, Quiet, Reads}
use Rattle.base.specs.Lists.{Distinct}
use Rattle.derivation.proofs.Pigeon.{pigeon}
use Rattle.derivation.proofs.Entries.{known, Apart, apart}
use Rattle.derivation.specs.inside.Entries.{Entry, Below, ground, wait}
use Rattle.derivation.proofs.Entries.{open-start, open-steps}
use Rattle.derivation.specs.inside.Entries.{Open, inside, quiet}

-- ---- as many entries as numbers that tell them apart
codes-mem : (h : Entry → ℕ) (E : List Entry) (c : ℕ) → Memᴰ c (map h E) → (y : Entry) × Memᴰ y E × (c ≡ h y)
codes-mem h [] c m = absurd (Memᴰ.not-nil m)
codes-mem h (x ∷ E) c m = go (Memᴰ.cases_cons m) (codes-mem h E c)
  where
    go : (c ≡ h x) ⊎ Memᴰ c (map h E) → (Memᴰ c (map h E) → (y : Entry) × Memᴰ y E × (c ≡ h y))
        → (y : Entry) × Memᴰ y (x ∷ E) × (c ≡ h y)
    go (inl q) rec = (x, Memᴰ.head refl, q)
    go (inr m) rec = let k = rec m in (k.0, Memᴰ.tail k.1, k.2)

-- equal codes say: the same nonterminal and the same position
abbrev Tells : (Entry → ℕ) → List Entry → Type 0
Tells h E = (x y : Entry) → Memᴰ x E → Memᴰ y E → h x ≡ h y → (x.who ≡ y.who) × (x.since ≡ y.since)

codes-distinct : (h : Entry → ℕ) {E : List Entry} → Apart E → Tells h E → Distinct (map h E)
codes-distinct h Apart.nil t = Distinct.nil
codes-distinct h (Apart.also {x = x} {E = E} n a) t =
    Distinct.also (λ m. let (y, k, q) = codes-mem h E (h x) m in let r = t x y (Memᴰ.head refl) (Memᴰ.tail k) q in n y k r.0 r.1)
    (codes-distinct h a (λ x y j k. t x y (Memᴰ.tail j) (Memᴰ.tail k)))

few : (h : Entry → ℕ) (k : ℕ) {E : List Entry} → Apart E → Tells h E → ((x : Entry) → Memᴰ x E → h x < k) → length E ≤ k
few h k {E} a t l =
    let z = pigeon k (map h E) (codes-distinct h a t) (λ c m. let (y, j, q) = codes-mem h E c m in let b = l y j in omega arith) in
    omega (arith, length-map E h)

-- ---- a pair as one number
pair-below : (k n q e : ℕ) → q < k → e ≤ n → q * suc n + e < k * suc n
pair-below k n q e l m = omega (arith, mul-le-mul_right (suc n) l)

pair-apart : (m q r q' r' : ℕ) → r < m → r' < m → q * m + r ≡ q' * m + r' → (q ≡ q') × (r ≡ r')
pair-apart m q r q' r' l l' e = go (dec_le (suc q) q') (dec_le (suc q') q)
  where
    go : Dec (suc q ≤ q') → Dec (suc q' ≤ q) → (q ≡ q') × (r ≡ r')
    go (yes h) _ = absurd (omega (arith, mul-le-mul_right m h))
    go (no h) (yes k) = absurd (omega (arith, mul-le-mul_right m k))
    go (no h) (no k) = let z : q ≡ q' = omega arith in let y : q * m ≡ q' * m = ap (λ x. x * m) z in (z, omega arith)

-- by nonterminals: a · (n + 1) + position
abbrev by_name : ℕ → Entry → ℕ
by_name n x = x.who * suc n + x.since

-- by places: ⌊place / 2⌋ · (n + 1) + position
abbrev by_place : ℕ → Entry → ℕ
by_place n x = (x.call / 2) * suc n + x.since

-- two places with the same half that face nonterminals have one owner: they are the same, or one stands behind the other
same_half : (g : Grammar) → Ordered g → (p q d d' : ℕ) → p / 2 ≡ q / 2 → facing g p ≡ Nonterminal d → facing g q ≡ Nonterminal d'
    → owner g p ≡ owner g q
same_half g ordered p q d d' h e e' = go (dec_le p q) (dec_le q p)
  where
    go : Dec (p ≤ q) → Dec (q ≤ p) → owner g p ≡ owner g q
    go (yes l) (yes m) = let z : p ≡ q = omega arith in ap (owner g) z
    go (yes l) (no m) = let z : q ≡ suc p = omega arith in sym (ap (owner g) z ∙ ordered.call-on p d e)
    go (no l) _ = let z : p ≡ suc q = omega arith in ap (owner g) z ∙ ordered.call-on q d' e'

module _ {g : Grammar} (sound : (a : ℕ) → ¬ LeftRecursive (of_places g) a) where
  -- ---- the topmost not counted: at most ⌈P / 2⌉ · (n + 1) entries wait, if nonterminals are faced at places below P only
  pub few-by-place : {G : List ℕ} {c i : ℕ} {S : List ℕ} {E : List Entry} (n P : ℕ) → Ordered g
      → ((p d : ℕ) → facing g p ≡ Nonterminal d → p < P)
      → Below g G S E c i → i ≤ n → length E ≤ (suc P / 2) * suc n
  few-by-place {E = E} n P ordered within b l = few (by_place n) ((suc P / 2) * suc n) (apart sound b) tells fits
    where
      tells : Tells (by_place n) E
      tells x y j k q =
          let kx = known b x j in
          let ky = known b y k in
          let u = kx.earlier in
          let v = ky.earlier in
          let h = pair-apart (suc n) (x.call / 2) x.since (y.call / 2) y.since (omega arith) (omega arith) q in
          (sym kx.own ∙ (same_half g ordered x.call y.call kx.calls.0 ky.calls.0 h.0 kx.calls.1 ky.calls.1 ∙ ky.own), h.1)

      fits : (x : Entry) → Memᴰ x E → by_place n x < (suc P / 2) * suc n
      fits x j =
          let k = known b x j in
          let u = k.earlier in
          let v = within x.call k.calls.0 k.calls.1 in
          let z : x.call / 2 < suc P / 2 = omega arith in
          pair-below (suc P / 2) n (x.call / 2) x.since z (omega arith)

-- ---- frames
-- every return place but those of the ground has its entry
below_length : {g : Grammar} {G : List ℕ} {c i : ℕ} {S : List ℕ} {E : List Entry} → Below g G S E c i → length S ≡ length E + length G
below_length ground = omega arith
below_length (wait x f b) = let h = below_length b in omega arith

-- the frames are the return places under the place that is read
pub frames : {g : Grammar} {G : List ℕ} {n p i : ℕ} {S : List ℕ} → ((a : ℕ) → ¬ LeftRecursive (of_places g) a) → Ordered g
    → (P : ℕ) → ((p d : ℕ) → facing g p ≡ Nonterminal d → p < P) → Open g G n (p ∷ S) i → length S ≤ (suc P / 2) * suc n + length G
frames {n = n} sound ordered P within (quiet q l) = omega arith
frames {n = n} sound ordered P within (inside l x b) =
    let e = x.forward in
    let z = few-by-place sound n P ordered within b (omega arith) in
    omega (arith, below_length b)

-- the whole: from the first place of a production of a on, never more frames than that
pub depth : (g : Grammar) → Ordered g → (w : List ℕ) (n : ℕ) → Reads g w n → (G : List ℕ) → Quiet g G → ((a : ℕ) → ¬ LeftRecursive (of_places g) a)
    → (P : ℕ) → ((p d : ℕ) → facing g p ≡ Nonterminal d → p < P) → (a b f : ℕ) → first g a b ≡ some f
    → (p i : ℕ) (S : List ℕ) → Steps g w (f ∷ G) 0 (p ∷ S) i → length S ≤ (suc P / 2) * suc n + length G
depth g ordered w n reads G silent sound P within a b f d p i S x =
    frames sound ordered P within (open-steps g ordered w n reads G silent (open-start g ordered w n reads G silent a b f d) x)

-- what stands in a marked note is a token of the note, or the mark
pub marked-get : (v : List ℕ) (i t : ℕ) → get_elem? (v ++ (end_mark ∷ [])) i ≡ some t → (i < length v) ⊎ (t ≡ end_mark)
marked-get [] zero t e = inr (cc)
marked-get [] (suc i) t e = clash (cc)
marked-get (x ∷ v) zero t e = inl (omega arith)
marked-get (x ∷ v) (suc i) t e = go (marked-get v i t e)
  where
    go : (i < length v) ⊎ (t ≡ end_mark) → (suc i < suc (length v)) ⊎ (t ≡ end_mark)
    go (inl l) = inl (omega arith)
    go (inr z) = inr z

-- only the end place takes the end mark, and its owner is no nonterminal
pub reads-marked : (g : Grammar) (v : List ℕ) → ((p k : ℕ) → facing g p ≡ Token k → T (admits g k end_mark) → p ≡ end_place)
    → ((b f : ℕ) → ¬ (first g (owner g end_place) b ≡ some f)) → Reads g (v ++ (end_mark ∷ [])) (length v)
reads-marked g v end-only nobody a b f p k i t d o e h c = go (marked-get v i t h)
  where
    go : (i < length v) ⊎ (t ≡ end_mark) → i < length v
    go (inl l) = l
    go (inr z) =
        let q : p ≡ end_place = end-only p k e (rw z at c) in
        let y : owner g end_place ≡ a = rw q at o in
        absurd (nobody b f (rw (← y) at d))
