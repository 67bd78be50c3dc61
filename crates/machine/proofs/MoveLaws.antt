-- Moves that need no choice keep what is known of the open frames, and of their sets, whichever stand.
use mathlib.Core.Path.{◌≡◌}
use mathlib.Core.Option.{some}
use mathlib.Core.List.{List, [], ◌∷◌}
use Prim.Native.Nat.{ℕ, suc, ◌+◌, ◌*◌, ◌≤◌}
use native.Mathlib.Nat.{mul_comm}
use native.Mathlib.Omega.{arith}
use lib.ListN.{length}
use Rattle.base.proofs.Booleans.{clash}
use Rattle.base.proofs.Lists.{get-below}
use Rattle.grammar.specs.declared.Symbol.TheVariants.{Nonterminal}
use Rattle.grammar.specs.Limits.{end_place}
use Rattle.grammar.specs.Grammar.{Grammar, facing, first, of_places}
use Rattle.grammar.specs.inside.Tables.{grammar_in}
use Rattle.closures.specs.Textbook.{LeftRecursive}
use Rattle.derivation.specs.Runs.{marked}
use Rattle.derivation.specs.inside.Steps.{Quiet, Reads}
use Rattle.derivation.specs.inside.Frames.{frame_words, spare_words}
use Rattle.derivation.specs.inside.Ready.{Ready}
use Rattle.derivation.specs.inside.Entries.{Open, Below}
use Rattle.derivation.proofs.CompiledDepth.{end_quiet, compile-reads}
use Rattle.derivation.proofs.FrameWords.{held-pop, held-match, held-room, room, returns-length}
use Rattle.derivation.specs.inside.Entries.{FramesOpen}
use Rattle.derivation.proofs.ReadyLaws.{ready-ordered, ready_call}
use Rattle.cells.specs.inside.Chart.{Lent}
use Rattle.machine.specs.inside.Frames.{Good}
use Rattle.machine.specs.inside.Space.{ground}
use Rattle.machine.specs.inside.Moves.{MovesOn, stay, popped, matched}
use Rattle.machine.proofs.GoodLaws.{good-match, good-pop}

-- ---- frames are only left, positions only passed
module _ {g : Grammar} {w ws : List ℕ} {base p₀ d₀ i₀ : ℕ} where
  pub moves-depth : {p d i : ℕ} → MovesOn g w ws base p₀ d₀ i₀ p d i → d ≤ d₀
  moves-depth stay = omega arith
  moves-depth (popped {d = d} x e) = let l = moves-depth x in omega arith
  moves-depth (matched x e f a) = moves-depth x

  pub moves-position : {p d i : ℕ} → MovesOn g w ws base p₀ d₀ i₀ p d i → i₀ ≤ length w → i ≤ length w
  moves-position stay h = h
  moves-position (popped x e) h = moves-position x h
  moves-position (matched {i = i} x e f a) h = let l = get-below w i f in omega arith

  pub moves-good : {p d i : ℕ} (K : ℕ → Type 0) → MovesOn g w ws base p₀ d₀ i₀ p d i → i₀ ≤ length w → Good g w ws base K d₀ p₀ i₀
      → Good g w ws base K d p i
  moves-good K stay l h = h
  moves-good K (popped {p = p} {d = d} {i = i} x e) l h = good-pop g w base ws K d p i e (moves-position x l) (moves-good K x l h)
  moves-good K (matched {p = p} {d = d} {i = i} x e f a) l h = good-match g w base ws K d p i e f a (moves-good K x l h)

-- ---- what the machine's states say of a place that calls
module _ {g : Grammar} where
  pub quiet-calls : {p a : ℕ} {S T : List ℕ} → Quiet g T → T ≡ p ∷ S → facing g p ≡ Nonterminal a → ⊥
  quiet-calls Quiet.empty q e = clash (cc)
  quiet-calls (Quiet.end f x) q e = clash (cc)
  quiet-calls (Quiet.token f x) q e = clash (cc)

  below-some : {G S : List ℕ} {E : List _} {c i : ℕ} → Below g G S E c i → S ≡ [] → G ≡ []
  below-some Below.ground q = q
  below-some (Below.wait x e y) q = clash (cc)

  -- a production is open over at least the ground, within the note
  pub open-calls : {n p a i : ℕ} {S T : List ℕ} → Open g (end_place ∷ []) n T i → T ≡ p ∷ S → facing g p ≡ Nonterminal a → (i ≤ n)
      × (S ≡ [] → ⊥)
  open-calls (Open.inside {S = S'} l x y) q e = (l, λ z. let k = below-some y (let d : S' ≡ [] = cc in d) in clash (cc))
  open-calls (Open.quiet x l) q e = absurd (quiet-calls x q e)

module _ (t : List ℕ) (h : Ready t) (w : List ℕ) where
  pub reads : Reads (grammar_in t) (marked w) (length w)
  reads = rw h.says (compile-reads h.rules h.limited w)

  straight : (a : ℕ) → ¬ LeftRecursive (of_places (grammar_in t)) a
  straight = rw h.says h.straight

  pub quiet : Quiet (grammar_in t) (end_place ∷ [])
  quiet = end_quiet (grammar_in t) (ready-ordered t h)

  -- ---- moves keep the frames
  pub moves-held : {ws : List ℕ} {base p₀ d₀ i₀ p d i : ℕ} → MovesOn (grammar_in t) (marked w) ws base p₀ d₀ i₀ p d i
      → FramesOpen (grammar_in t) (end_place ∷ []) (length w) ws base d₀ p₀ i₀ → FramesOpen (grammar_in t) (end_place ∷ []) (length w) ws base d p i
  moves-held stay x = x
  moves-held {ws} {base} (popped {d = d} m e) x =
      held-pop (grammar_in t) (ready-ordered t h) (marked w) (length w) reads (end_place ∷ []) quiet base ws d e (moves-held m x)
  moves-held {ws} {base} (matched {d = d} m e f a) x =
      held-match (grammar_in t) (ready-ordered t h) (marked w) (length w) reads (end_place ∷ []) quiet base ws d e f a (moves-held m x)

  -- ---- the frames have room
  module _ (ws : List ℕ) (lent : Lent (grammar_in t).size (length w) ws) (d p i : ℕ)
      (held : FramesOpen (grammar_in t) (end_place ∷ []) (length w) ws (ground t w) d p i) where
    pub frames-in : ground t w + frame_words * d + spare_words ≤ length ws
    frames-in =
        let z = room straight (ready-ordered t h) (grammar_in t).size (ready_call t h) held (omega arith) lent.short in
        omega (arith, lent.room, returns-length ws (ground t w) d, mul_comm (grammar_in t).size (suc (length w)))

    pub frame-room : {a f : ℕ} (b : ℕ) → facing (grammar_in t) p ≡ Nonterminal a → first (grammar_in t) a b ≡ some f
        → ground t w + frame_words * suc d + spare_words ≤ length ws
    frame-room b e q =
        let z = held-room (grammar_in t) (ready-ordered t h) (marked w) (length w) reads (end_place ∷ []) quiet (ground t w) ws d b straight
        (grammar_in t).size (ready_call t h) (omega arith) lent.short lent.room e q held in
        omega (arith, mul_comm (grammar_in t).size (suc (length w)))
