-- The machine's stack in words: what each step makes of the frames, and that the working space has room for the next one.
use mathlib.Core.Path.{◌≡◌, refl, ap}
use mathlib.Core.Option.{some}
use mathlib.Core.List.{List, [], ◌∷◌, ◌++◌}
use Prim.Native.Nat.{ℕ, zero, suc, ◌+◌, ◌*◌, ◌/◌, ◌≤◌, ◌<◌}
use native.Mathlib.Nat.{mul-le-mul_right}
use native.Mathlib.Omega.{arith}
use lib.Dec.{T}
use lib.ListN.{length, get_or, get_elem?}
use Rattle.grammar.specs.declared.Symbol.TheVariants.{Token, Nonterminal, End}
use Rattle.grammar.specs.Limits.{end_place, end_mark}
use Rattle.grammar.specs.Decode.{Rules}
use Rattle.grammar.specs.Grammar.{Grammar, facing, admits, first, size_all, compile, Limited, of_places}
use Rattle.grammar.specs.inside.Ordered.{Ordered}
use Rattle.closures.specs.Textbook.{LeftRecursive}
use Rattle.derivation.specs.inside.Steps.{Step, Steps, Quiet, Reads}
use Rattle.derivation.specs.Space.{max_tokens, space_words}
use Rattle.derivation.specs.inside.Frames.{cell_words, frame_words, spare_words, returns_of, Pushed}
use Rattle.derivation.proofs.Entries.{open_step}
use Rattle.derivation.specs.inside.Entries.{Open}
use Rattle.derivation.proofs.Depth.{frames}
use Rattle.derivation.proofs.CompiledDepth.{marked-depth}
use Rattle.derivation.specs.inside.Entries.{FramesOpen}

-- ---- return places
pub returns-length : (ws : List ℕ) (base d : ℕ) → length (returns_of ws base d) ≡ d
unfolding returns_of
returns-length ws base zero = refl
returns-length ws base (suc k) = ap suc (returns-length ws base k)

-- words that agree below the next frame hold the same return places
pub returns-same : (ws vs : List ℕ) (base d : ℕ) → ((k : ℕ) → base ≤ k → k < base + frame_words * d → get_or vs k 0 ≡ get_or ws k 0)
    → returns_of vs base d ≡ returns_of ws base d
unfolding returns_of
returns-same ws vs base zero h = refl
returns-same ws vs base (suc k) h =
    let a = h (base + frame_words * k) (omega arith) (omega arith) in
    let b = returns-same ws vs base k (λ j l m. h j l (omega arith)) in
    cc

pub pushed-returns : (ws vs : List ℕ) (base d q : ℕ) → Pushed ws vs base d q → returns_of vs base (suc d) ≡ q ∷ returns_of ws base d
unfolding returns_of
pushed-returns ws vs base d q h = let a = h.top in let b = returns-same ws vs base d h.rest in cc

-- ---- six words a frame fit beside five words a cell
pub fits : (P n k : ℕ) → n ≤ max_tokens → k ≤ (suc P / 2) * suc n + 1 → cell_words * (P * suc n) + frame_words * k + spare_words ≤ space_words P n
fits P n k l h = omega (arith, mul-le-mul_right {m = 2 * (suc P / 2)} {n = suc P} (suc n) (omega arith))

-- the frames of every state of the machine have room, over a ground of at most one place
pub room : {g : Grammar} {G : List ℕ} {n p i : ℕ} {S : List ℕ} → ((a : ℕ) → ¬ LeftRecursive (of_places g) a) → Ordered g
    → (P : ℕ) → ((p d : ℕ) → facing g p ≡ Nonterminal d → p < P) → Open g G n (p ∷ S) i → length G ≤ 1 → n ≤ max_tokens
    → cell_words * (P * suc n) + frame_words * length S + spare_words ≤ space_words P n
room {n = n} {S = S} sound ordered P within o one small = let z = frames sound ordered P within o in fits P n (length S) small (omega arith)

module _ (g : Grammar) (ordered : Ordered g) (w : List ℕ) (n : ℕ) (reads : Reads g w n) (G : List ℕ) (silent : Quiet g G) (base : ℕ) where
  -- a step keeps the invariant: the topmost frame goes, nothing changes, a frame is pushed
  pub held-pop : (ws : List ℕ) (d : ℕ) {p i : ℕ} → facing g p ≡ End → FramesOpen g G n ws base (suc d) p i
      → FramesOpen g G n ws base d (get_or ws (base + frame_words * d) 0) i
  unfolding returns_of
  held-pop ws d e h = open_step g ordered w n reads G silent h (Step.popped e)

  pub held-match : (ws : List ℕ) (d : ℕ) {p k t i : ℕ} → facing g p ≡ Token k → get_elem? w i ≡ some t → T (admits g k t)
      → FramesOpen g G n ws base d p i
      → FramesOpen g G n ws base d (suc p) (suc i)
  held-match ws d e f a h = open_step g ordered w n reads G silent h (Step.matched e f a)

  pub held-pick : (ws vs : List ℕ) (d : ℕ) {p a f i : ℕ} (b : ℕ) → facing g p ≡ Nonterminal a → first g a b ≡ some f
      → Pushed ws vs base d (suc p)
      → FramesOpen g G n ws base d p i → FramesOpen g G n vs base (suc d) f i
  held-pick ws vs d {p} {a} {f} {i} b e q x h =
      rw (pushed-returns ws vs base d (suc p) x) (open_step g ordered w n reads G silent h (Step.picked b e q))

  -- and before the push there is room for the frame
  pub held-room : (ws : List ℕ) (d : ℕ) {p a f i : ℕ} (b : ℕ) → ((a : ℕ) → ¬ LeftRecursive (of_places g) a)
      → (P : ℕ) → ((p d : ℕ) → facing g p ≡ Nonterminal d → p < P) → length G ≤ 1 → n ≤ max_tokens → space_words P n ≤ length ws
      → facing g p ≡ Nonterminal a → first g a b ≡ some f → FramesOpen g G n ws base d p i
      → cell_words * (P * suc n) + frame_words * suc d + spare_words ≤ length ws
  held-room ws d {p} {a} {f} {i} b sound P within one small enough e q h =
      let z = room sound ordered P within (open_step g ordered w n reads G silent h (Step.picked b e q)) one small in
      omega (arith, returns-length ws base d)

-- ---- so, for rules within the limits that are not left recursive, the frames always fit beside the cells, and the spare words are left
pub marked-room : (r : Rules) → Limited r → ((a : ℕ) → ¬ LeftRecursive (of_places (compile r)) a) → (w : List ℕ) → length w ≤ max_tokens
    → (a b f : ℕ) → first (compile r) a b ≡ some f → (p i : ℕ) (S : List ℕ)
    → Steps (compile r) (w ++ (end_mark ∷ [])) (f ∷ end_place ∷ []) 0 (p ∷ S) i
    → cell_words * (size_all r.productions * suc (length w)) + frame_words * length S + spare_words ≤ space_words (size_all r.productions) (length w)
marked-room r limits none w small a b f d p i S x =
    fits (size_all r.productions) (length w) (length S) small (marked-depth r limits none w a b f d p i S x)
