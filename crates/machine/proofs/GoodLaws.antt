-- The frames' sets stay right with every step of the machine.
use mathlib.Core.Path.{◌≡◌, sym, ap, ◌∙◌}
use mathlib.Core.Option.{some}
use mathlib.Core.List.{List, ◌∷◌}
use Prim.Native.Nat.{ℕ, zero, suc, ◌+◌, ◌*◌, ◌/◌, ◌%◌, ◌≤◌, ◌<◌}
use native.Mathlib.Omega.{arith}
use lib.Dec.{T}
use lib.ListN.{length, get_or, get_elem?}
use Rattle.base.specs.Bits.{test_bit}
use Rattle.grammar.specs.declared.Symbol.TheVariants.{Token, Nonterminal, End}
use Rattle.grammar.specs.Grammar.{Grammar, facing, admits, first}
use Rattle.positions.specs.inside.Positions.{position_count}
use Rattle.positions.specs.inside.Words.{member_at}
use Rattle.derivation.specs.inside.BigSteps.{Der}
use Rattle.derivation.specs.Cells.{derives?, runs?}
use Rattle.derivation.specs.inside.Frames.{frame_words, returns_of, Pushed}
use Rattle.derivation.proofs.CellLaws.{derives-sound, derives-complete}
use Rattle.derivation.proofs.RunLaws.{der-in}
use Rattle.derivation.proofs.FrameWords.{returns-same, pushed-returns}
use Rattle.machine.specs.inside.Frames.{frame_has, Good}

module _ (g : Grammar) (w : List ℕ) (base : ℕ) where
  derives-end : (p i : ℕ) → facing g p ≡ End → i ≤ length w → T (derives? g w p i i)
  derives-end p i e l = derives-complete g w (Der.finish e l)

  derives-token : (p i m : ℕ) {k u : ℕ} → facing g p ≡ Token k → get_elem? w i ≡ some u → T (admits g k u) → T (derives? g w (suc p) (suc i) m)
      → T (derives? g w p i m)
  derives-token p i m e d a x = derives-complete g w (Der.match e d a (derives-sound g w x).1)

  pub derives-call : (p i j m : ℕ) {a f : ℕ} (b : ℕ) → facing g p ≡ Nonterminal a → first g a b ≡ some f → T (derives? g w f i j)
      → T (derives? g w (suc p) j m)
      → T (derives? g w p i m)
  derives-call p i j m b e d x y = derives-complete g w (Der.expand {b = b} e d (derives-sound g w x).1 (derives-sound g w y).1)

  -- ---- a token is matched, a production is at its end
  pub good-match : (ws : List ℕ) (K : ℕ → Type 0) (d p i : ℕ) {k u : ℕ} → facing g p ≡ Token k → get_elem? w i ≡ some u → T (admits g k u)
      → Good g w ws base K d p i
      → Good g w ws base K d (suc p) (suc i)
  unfolding Good
  good-match ws K zero p i e f a h = tt
  good-match ws K (suc d) p i e f a h = λ m x. h m (derives-token p i m e f a x)

  pub good-pop : (ws : List ℕ) (K : ℕ → Type 0) (d p i : ℕ) → facing g p ≡ End → i ≤ length w → Good g w ws base K (suc d) p i
      → Good g w ws base K d (get_or ws (base + frame_words * d) 0) i
  unfolding Good
  good-pop ws K d p i e l h = (h i (derives-end p i e l)).1

  -- ---- fewer sets stand
  pub good-fewer : (ws : List ℕ) (K L : ℕ → Type 0) (d p i : ℕ) → ((k : ℕ) → k < d → L k → K k) → Good g w ws base K d p i
      → Good g w ws base L d p i
  unfolding Good
  good-fewer ws K L zero p i f h = tt
  good-fewer ws K L (suc d) p i f h =
      λ m x. (λ y. (h m x).0 (f d (omega arith) y), good-fewer ws K L d (get_or ws (base + frame_words * d) 0) m (λ k l. f k (omega arith)) (h m x).1)

  -- ---- a production is entered
  good-behind : (ws : List ℕ) (K : ℕ → Type 0) (d p i m : ℕ) {a f : ℕ} (b : ℕ) → facing g p ≡ Nonterminal a → first g a b ≡ some f
      → T (derives? g w f i m) → Good g w ws base K d p i
      → Good g w ws base K d (suc p) m
  unfolding Good
  good-behind ws K zero p i m b e q x h = tt
  good-behind ws K (suc d) p i m b e q x h = λ j y. h j (derives-call p i m j b e q x y)

  -- words that agree below frame d have the same sets
  has_same : (ws vs : List ℕ) (k m : ℕ) → m < position_count
      → ((j : ℕ) → base ≤ j → j < base + frame_words * suc k → get_or vs j 0 ≡ get_or ws j 0)
      → frame_has vs base k m ≡ frame_has ws base k m
  unfolding frame_has member_at
  has_same ws vs k m l h = ap (λ (x : ℕ). test_bit x (m % 32)) (h (base + frame_words * k + 1 + m / 32) (omega arith) (omega arith))

  pub good-same : (ws vs : List ℕ) (K : ℕ → Type 0) (d p i : ℕ) → length w < position_count
      → ((j : ℕ) → base ≤ j → j < base + frame_words * d → get_or vs j 0 ≡ get_or ws j 0)
      → Good g w ws base K d p i → Good g w vs base K d p i
  unfolding Good
  good-same ws vs K zero p i l h x = tt
  good-same ws vs K (suc d) p i l h x = λ m y.
      let z = der-in (derives-sound g w y).1 in
      let e = has_same ws vs d m (omega arith) h in
      let r = returns-same ws vs base (suc d) h in
      let q = h (base + frame_words * d) (omega arith) (omega arith) in
      let k = good-same ws vs K d (get_or ws (base + frame_words * d) 0) m l (λ j a b. h j a (omega arith)) (x m y).1 in
      (λ a. e ∙ ((x m y).0 a ∙ ap (λ (S : List ℕ). runs? g w S m) (sym r)), rw q k)

  -- the new frame's set is looked at only if it is to stand
  pub good-push : (ws vs : List ℕ) (K : ℕ → Type 0) (d p i : ℕ) {a f : ℕ} (b : ℕ) → length w < position_count → facing g p ≡ Nonterminal a
      → first g a b ≡ some f
      → Pushed ws vs base d (suc p) →
      (K d → (m : ℕ) → T (derives? g w f i m) → frame_has vs base d m ≡ runs? g w (suc p ∷ returns_of ws base d) m)
      → Good g w ws base K d p i → Good g w vs base K (suc d) f i
  unfolding Good
  good-push ws vs K d p i b l e q x y h = λ m z.
      let r = pushed-returns ws vs base d (suc p) x in
      let k = good-same ws vs K d (suc p) m l x.rest (good-behind ws K d p i m b e q z h) in
      (λ u. y u m z ∙ ap (λ (S : List ℕ). runs? g w S m) (sym r), rw x.top k)
