-- Where a nonterminal waits: every index is in range, a frame has room; and after an alternative was entered it is so again, where the next one waits.
use mathlib.Core.Path.{◌≡◌, refl, sym, ap, ◌∙◌}
use mathlib.Core.Option.{some}
use mathlib.Core.List.{List, [], ◌∷◌}
use Prim.Native.Nat.{ℕ, suc, ◌+◌, ◌*◌, ◌≤◌, ◌<◌}
use native.Mathlib.Nat.{mul_comm}
use native.Mathlib.Omega.{arith}
use lib.Dec.{T}
use lib.ListN.{length}
use Rattle.base.proofs.Booleans.{clash}
use Rattle.grammar.specs.Limits.{end_place}
use Rattle.grammar.specs.Grammar.{Grammar, first, compile}
use Rattle.grammar.specs.inside.Tables.{grammar_in, nonterminals_in}
use Rattle.grammar.proofs.WordLaws.{length-starts-in}
use Rattle.grammar.proofs.PlaceLaws.{length-starts_all}
use Rattle.derivation.specs.Runs.{marked}
use Rattle.derivation.specs.Cells.{derives?, runs?}
use Rattle.derivation.specs.inside.Frames.{frame_words, spare_words, returns_of, Pushed}
use Rattle.derivation.specs.inside.Ready.{Ready}
use Rattle.derivation.proofs.Entries.{open-start}
use Rattle.derivation.proofs.FrameWords.{held-pick, pushed-returns}
use Rattle.derivation.specs.inside.Entries.{FramesOpen}
use Rattle.derivation.proofs.ReadyLaws.{ready-ordered, ready-size, ready_call, ready-next}
use Rattle.derivation.proofs.MarkedCells.{length_marked}
use Rattle.cells.specs.inside.Chart.{Lent}
use Rattle.machine.specs.inside.Frames.{frame_has, Good}
use Rattle.machine.specs.inside.Space.{Roomy, ground, opened}
use Rattle.machine.specs.inside.Waits.{Waits, begins, called}
use Rattle.machine.proofs.GoodLaws.{good-fewer, good-push}
use Rattle.machine.proofs.MoveLaws.{open-calls, reads, quiet, frames-in, frame-room}

-- there is a nonterminal 0
pub some-named : (t : List ℕ) → Ready t → 0 < nonterminals_in t
unfolding compile
some-named t h =
    let z = ap (λ (g : Grammar). length g.starts) h.says in
    omega (arith, z, length-starts-in t, length-starts_all 0 h.rules.productions, h.limited.some)

-- a reading begins so
pub waits-begins : (t w ws : List ℕ) (K : ℕ → Type 0) → Waits t w ws K 0 end_place 0 0
waits-begins t w ws K = begins refl refl refl refl

-- fewer sets stand
pub waits-fewer : {t w ws : List ℕ} (K L : ℕ → Type 0) {d q a i : ℕ} → ((k : ℕ) → k < d → L k → K k) → Waits t w ws K d q a i
    → Waits t w ws L d q a i
waits-fewer K L f (begins z y x v) = begins z y x v
waits-fewer {t} {w} {ws} K L {d} {i = i} f (called p y e held good) =
    called p y e held (good-fewer (grammar_in t) (marked w) (ground t w) ws K L d p i f good)

module _ (t : List ℕ) (h : Ready t) (w : List ℕ) {ws : List ℕ} {K : ℕ → Type 0} {d q a i : ℕ} where
  pub waits-position : Waits t w ws K d q a i → i ≤ length w
  waits-position (begins z y x v) = omega arith
  waits-position (called p y e held good) = (open-calls held refl e).0

  pub waits-named : Waits t w ws K d q a i → a < nonterminals_in t
  waits-named (begins z y x v) = let l = some-named t h in omega arith
  waits-named (called p y e held good) = h.fits.named p a e

  -- the return place is one of the grammar's, or the end place
  pub waits-small : Waits t w ws K d q a i → q < 256
  waits-small (begins z y x v) = omega (arith, y)
  waits-small (called p y e held good) = omega (arith, ready_call t h p a e, ready-size t h)

  -- with no frame below, the reading begins
  pub waits-first : Waits t w ws K d q a i → d ≡ 0 → (q ≡ end_place) × (a ≡ 0) × (i ≡ 0)
  unfolding returns_of
  waits-first (begins z y x v) n = (y, x, v)
  waits-first (called p y e held good) n = absurd ((open-calls held refl e).1 (rw n refl))

  pub waits-place : Waits t w ws K d q a i → (d ≡ 0 → ⊥) → q < (grammar_in t).size
  waits-place (begins z y x v) n = absurd (n z)
  waits-place (called p y e held good) n = rw y (ready-next t h p (ready_call t h p a e) (λ z. clash (cc)))

  -- ---- room
  pub waits-frames : Lent (grammar_in t).size (length w) ws → Waits t w ws K d q a i → ground t w + frame_words * d + spare_words ≤ length ws
  waits-frames lent (begins z y x v) = omega (arith, lent.room, mul_comm (grammar_in t).size (suc (length w)))
  waits-frames lent (called p y e held good) = frames-in t h w ws lent d p i held

  pub waits-room : Lent (grammar_in t).size (length w) ws → Waits t w ws K d q a i → (b : ℕ) {f : ℕ} → first (grammar_in t) a b ≡ some f
      → ground t w + frame_words * suc d + spare_words ≤ length ws
  waits-room lent (begins z y x v) b m = omega (arith, lent.room, mul_comm (grammar_in t).size (suc (length w)))
  waits-room lent (called p y e held good) b m = frame-room t h w ws lent d p i held b e m

  pub waits-roomy : Lent (grammar_in t).size (length w) ws → Waits t w ws K d q a i → Roomy t ws (ground t w) d a
  waits-roomy lent x b f e = let z = waits-room lent x b e in omega arith

  -- ---- alternative b is entered: vs is the working space with q as frame d, whose set is looked at only if it is to stand
  module _ (vs : List ℕ) (b f : ℕ) (e : first (grammar_in t) a b ≡ some f) (pushed : Pushed ws vs (ground t w) d q) where
    pub waits-held : Waits t w ws K d q a i → FramesOpen (grammar_in t) (end_place ∷ []) (length w) vs (ground t w) (suc d) f i
    unfolding returns_of
    waits-held (begins z y x v) =
        let s : returns_of vs (ground t w) (suc d) ≡ end_place ∷ []
        = pushed-returns ws vs (ground t w) d q pushed ∙ rw (z, y) refl in
        rw (s, v) (open-start (grammar_in t) (ready-ordered t h) (marked w) (length w) (reads t h w) (end_place ∷ []) (quiet t h w) a b f e)
    waits-held (called p y c held good) =
        held-pick (grammar_in t) (ready-ordered t h) (marked w) (length w) (reads t h w) (end_place ∷ []) (quiet t h w) (ground t w) ws vs d b c e
        (rw y at pushed) held

    pub waits-good : Lent (grammar_in t).size (length w) ws
        → (K d → (m : ℕ) → T (derives? (grammar_in t) (marked w) f i m) → frame_has vs (ground t w) d m
        ≡ runs? (grammar_in t) (marked w) (opened t w ws d q) m)
        → Waits t w ws K d q a i → Good (grammar_in t) (marked w) vs (ground t w) K (suc d) f i
    unfolding Good
    waits-good lent sets (begins z y x v) = λ m u.
        (λ k. sets k m u ∙ ap (λ (S : List ℕ). runs? (grammar_in t) (marked w) S m) (sym (pushed-returns ws vs (ground t w) d q pushed)), rw z tt)
    waits-good lent sets (called p y c held good) =
        good-push (grammar_in t) (marked w) (ground t w) ws vs K d p i b (omega (arith, length_marked w, lent.short)) c e (rw y at pushed)
        (rw y at sets) good
