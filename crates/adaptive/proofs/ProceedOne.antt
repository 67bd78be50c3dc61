-- The lessons of a reading leave nothing open: whatever words it began with, they say one row of words.
use mathlib.Core.Path.{◌≡◌, refl, ap}
use mathlib.Core.Option.{Option}
use mathlib.Core.List.{List, [], ◌∷◌}
use Prim.Native.Nat.{ℕ, ◌≤◌}
use native.Mathlib.Omega.{arith}
use lib.Dec.{T}
use lib.ListN.{length}
use Rattle.base.proofs.Booleans.{clash}
use Rattle.grammar.specs.Limits.{max_productions}
use Rattle.grammar.specs.Grammar.{Grammar, admits, alternatives}
use Rattle.lookahead.specs.Configs.{Decides}
use Rattle.cache.proofs.LessonOne.{Alike, foretells-one}
use Rattle.adaptive.specs.Proceeding.{Takes, only, foretold, lowest-serving, none-serving, Stand, Proceeds, done, pops, matches, differs}
use Rattle.adaptive.specs.Proceeding.{lacks, calls, crammed, enters, stops}

module _ (g : Grammar) (few : (a : ℕ) → length (alternatives g a) ≤ max_productions) (w : List ℕ) where
  -- a nonterminal of one production decides nothing
  decided : (a : ℕ) {f : ℕ} → alternatives g a ≡ f ∷ [] → Decides g a → ⊥
  decided a e h = omega (arith, ap length e, h)

  takes_one : {S : List ℕ} {a i : ℕ} {c : List ℕ} {o p : Option ℕ} {d e : List ℕ} → Takes g w S a i c o d → Takes g w S a i c p e → Alike o p d e
  takes_one (only e) (only e') = record { said = cc; words = refl }
  takes_one {a = a} (only e) (foretold h x f) = absurd (decided a e h)
  takes_one {a = a} (only e) (lowest-serving h x y l f) = absurd (decided a e h)
  takes_one {a = a} (only e) (none-serving h x n) = absurd (decided a e h)
  takes_one {a = a} (foretold h x f) (only e) = absurd (decided a e h)
  takes_one {a = a} (foretold h x f) (foretold h' x' f') = let z = foretells-one g a (few a) x x' in let q = z.said in record { said = cc; words = z.words }
  takes_one {a = a} (foretold h x f) (lowest-serving h' x' y' l' f') = let q = (foretells-one g a (few a) x x').said in clash (cc)
  takes_one {a = a} (foretold h x f) (none-serving h' x' n') = let q = (foretells-one g a (few a) x x').said in clash (cc)
  takes_one {a = a} (lowest-serving h x y l f) (only e) = absurd (decided a e h)
  takes_one {a = a} (lowest-serving h x y l f) (foretold h' x' f') = let q = (foretells-one g a (few a) x x').said in clash (cc)
  takes_one {a = a} (lowest-serving {b = b} h x y l f) (lowest-serving {b = b'} h' x' y' l' f') =
      let m = l b' y' in
      let m' = l' b y in
      let q : b ≡ b' = omega arith in
      record { said = cc; words = (foretells-one g a (few a) x x').words }
  takes_one (lowest-serving {b = b} h x y l f) (none-serving h' x' n') = absurd (n' b y)
  takes_one {a = a} (none-serving h x n) (only e) = absurd (decided a e h)
  takes_one {a = a} (none-serving h x n) (foretold h' x' f') = let q = (foretells-one g a (few a) x x').said in clash (cc)
  takes_one (none-serving h x n) (lowest-serving {b = b} h' x' y' l' f') = absurd (n b y')
  takes_one {a = a} (none-serving h x n) (none-serving h' x' n') = record { said = refl; words = (foretells-one g a (few a) x x').words }

  -- ONE ROW OF WORDS
  pub proceeds-one : {x : Stand} {i room : ℕ} {c d e : List ℕ} → Proceeds g w x i room c d → Proceeds g w x i room c e → d ≡ e
  proceeds-one done done = refl
  proceeds-one (pops f x) (pops f' y) = proceeds-one x y
  proceeds-one (pops f x) (matches f' t a y) = clash (cc)
  proceeds-one (pops f x) (differs f' t a) = clash (cc)
  proceeds-one (pops f x) (lacks f' t) = clash (cc)
  proceeds-one (pops f x) (calls f' y) = clash (cc)
  proceeds-one (matches f t a x) (pops f' y) = clash (cc)
  proceeds-one (matches f t a x) (matches f' t' a' y) = proceeds-one x y
  proceeds-one (matches {k = k} {t = u} f t a x) (differs {k = k'} {t = u'} f' t' n) =
      let z : k ≡ k' = cc in
      let z' : u ≡ u' = cc in
      let b : T (admits g k' u') = rw (z, z') at a in
      absurd (n b)
  proceeds-one (matches f t a x) (lacks f' t') = clash (cc)
  proceeds-one (matches f t a x) (calls f' y) = clash (cc)
  proceeds-one (differs f t n) (pops f' y) = clash (cc)
  proceeds-one (differs {k = k} {t = u} f t n) (matches {k = k'} {t = u'} f' t' a y) =
      let z : k' ≡ k = cc in
      let z' : u' ≡ u = cc in
      let b : T (admits g k u) = rw (z, z') at a in
      absurd (n b)
  proceeds-one (differs f t n) (differs f' t' n') = refl
  proceeds-one (differs f t n) (lacks f' t') = refl
  proceeds-one (differs f t n) (calls f' y) = clash (cc)
  proceeds-one (lacks f t) (pops f' y) = clash (cc)
  proceeds-one (lacks f t) (matches f' t' a y) = clash (cc)
  proceeds-one (lacks f t) (differs f' t' n) = refl
  proceeds-one (lacks f t) (lacks f' t') = refl
  proceeds-one (lacks f t) (calls f' y) = clash (cc)
  proceeds-one (calls f x) (pops f' y) = clash (cc)
  proceeds-one (calls f x) (matches f' t a y) = clash (cc)
  proceeds-one (calls f x) (differs f' t n) = clash (cc)
  proceeds-one (calls f x) (lacks f' t) = clash (cc)
  proceeds-one (calls {a = a} f x) (calls {a = a'} f' y) = let z : a ≡ a' = cc in proceeds-one x (rw z y)
  proceeds-one crammed crammed = refl
  proceeds-one (enters {f = f} t x) (enters {f = f'} t' y) =
      let z = takes_one t t' in
      let s = z.said in
      let q : f ≡ f' = cc in
      proceeds-one x (rw (q, z.words) y)
  proceeds-one (enters t x) (stops t') = let s = (takes_one t t').said in clash (cc)
  proceeds-one (stops t) (enters t' y) = let s = (takes_one t t').said in clash (cc)
  proceeds-one (stops t) (stops t') = (takes_one t t').words
