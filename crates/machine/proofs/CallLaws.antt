-- A choice by the cells where a nonterminal waits: the set that the code makes is right, and so is what its choice leaves.
use mathlib.Core.Path.{◌≡◌, refl, ap, ◌∙◌}
use mathlib.Core.List.{List}
use Prim.Native.Nat.{ℕ, zero, suc, ◌+◌, ◌-◌, ◌*◌, ◌≤◌}
use native.Mathlib.Omega.{arith}
use lib.ListN.{length}
use Rattle.base.proofs.Booleans.{clash}
use Rattle.grammar.specs.inside.Tables.{grammar_in}
use Rattle.positions.specs.inside.Positions.{empty_set, with_of}
use Rattle.positions.specs.inside.Words.{set_at}
use Rattle.positions.proofs.SetLaws.{Fit}
use Rattle.derivation.specs.Runs.{marked}
use Rattle.derivation.specs.Machine.{lowest}
use Rattle.derivation.specs.inside.Frames.{frame_words, returns_of}
use Rattle.derivation.proofs.ReadyLaws.{ready-first}
use Rattle.derivation.proofs.MarkedCells.{derives-inside}
use Rattle.cells.specs.inside.Chart.{Lent, LentAt, EndsOf}
use Rattle.machine.specs.inside.Frames.{EveryFrame, Serving, push_of}
use Rattle.machine.specs.inside.Choice.{Leading, or_zero, lowest_in}
use Rattle.machine.specs.inside.Space.{push_if, ground, opened}
use Rattle.machine.specs.inside.Waits.{Waits, begins, called, Calling, Choosing, Called}
use Rattle.machine.specs.declared.steps.At.{At}
use Rattle.machine.specs.declared.steps.Space.{Space}
use Rattle.machine.proofs.ServingLaws.{lowest-is, serving-end, serving-over}
use Rattle.machine.proofs.PushLaws.{length_push, push-pushed, push-has, push-charted}
use Rattle.machine.proofs.AlternativeLaws.{lowest-named}
use Rattle.machine.proofs.WaitLaws.{waits-position, waits-first, waits-named, waits-roomy, waits-small}

-- ---- as the code has it: its own names for the number of places
pub lent_of : {P Q n : ℕ} {ws : List ℕ} → P ≡ Q → Lent Q n ws → Lent P n ws
lent_of e h = rw e h

pub lent_at : {P Q : ℕ} {ws : List ℕ} (n i : ℕ) → P ≡ Q → Lent Q n ws → i ≤ n → LentAt P i ws
lent_at n i e h l = record { tokens = n; lent = lent_of e h; here = l }

-- ---- a frame that is pushed if an alternative was found
pub push-if : (b : ℕ) (ws : List ℕ) {after : List ℕ} (base d q : ℕ) (s : List ℕ) → (b ≡ 0 → ⊥) → after ≡ push_of ws base d q s → after
    ≡ push_if b ws base d q s
push-if zero ws base d q s n e = absurd (n refl)
push-if (suc b) ws base d q s n e = e

module _ (t w ws : List ℕ) (fit : Fit ws) (space : Space) (at : At) (a : ℕ) (x : Calling t w ws space at a) where
  pub calling-position : at.position ≤ length w
  calling-position = waits-position t x.ready w x.waits

  pub calling-at : LentAt (grammar_in t).size at.position ws
  calling-at = lent_at (length w) at.position refl x.lent calling-position

  pub calling-chooses : Choosing t ws space.base at a
  calling-chooses =
      record {
        ready = x.ready;
        lent = calling-at;
        named = waits-named t x.ready w x.waits;
        roomy = rw x.spaced.base (waits-roomy t x.ready w x.lent x.waits);
        small = let l = waits-small t x.ready w x.waits in omega arith;
      }

  -- the set s says from where what stays open derives the rest
  abbrev pub RightChoice : List ℕ → Type 0
  RightChoice s = Serving (grammar_in t) (marked w) (returns_of ws (ground t w) at.depth) at.place a at.position s

  -- ---- the set is right: of the end place, and of a return place over frames
  pub ahead-end : {e s : List ℕ} → at.depth ≡ 0 → e ≡ empty_set → s ≡ with_of e (length w) → RightChoice s
  unfolding returns_of
  ahead-end z m n =
      let (y, u, v) = waits-first t x.ready w x.waits z in
      rw (z, y, u, v, n, m) (serving-end t x.ready w ws x.charted x.lent.short fit 0 (omega arith))

  pub ahead-over : (ends rest s : List ℕ) → (at.depth ≡ 0 → ⊥) → EndsOf t ws a at.position ends
      → rest ≡ set_at ws (space.base + frame_words * (at.depth - 1) + 1) → Leading space.places ws (length w) ends at.place rest s → RightChoice s
  ahead-over ends rest s n e c l = go x.waits at.depth refl
    where
      c' : rest ≡ set_at ws (ground t w + frame_words * (at.depth - 1) + 1)
      c' = rw x.spaced.base at c

      l' : Leading (grammar_in t).size ws (length w) ends at.place rest s
      l' = rw x.spaced.places at l

      go : Waits t w ws EveryFrame at.depth at.place a at.position → (k : ℕ) → at.depth ≡ k → RightChoice s
      go (begins z y u v) k j = absurd (n z)
      go (called p y f held good) zero j = absurd (n j)
      go (called p y f held good) (suc k) j =
          let i : at.depth - 1 ≡ k = omega arith in
          rw (j, y) (serving-over t x.ready w ws x.charted x.lent.short fit ends rest s (ground t w) k p a at.position calling-position f
          (rw j at good) e (rw i at c') (rw y at l'))

  -- ---- what the choice leaves
  module _ (s : List ℕ) {r : ℕ} (right : RightChoice s) (e : r ≡ lowest_in t ws a at.position s) where
    chosen_is : r ≡ or_zero (lowest (grammar_in t) (marked w) (opened t w ws at.depth at.place) a at.position)
    chosen_is =
        e ∙ lowest-is t x.ready w ws x.charted x.lent.short fit (returns_of ws (ground t w) at.depth) at.place a at.position s
        calling-position right

    called-none : {after : List ℕ} → r ≡ 0 → after ≡ ws → Called t w ws after at.depth at.place a at.position r
    called-none z same =
        record {
          chosen = chosen_is;
          kept = ap length same;
          charted = rw same x.charted;
          pushed = λ n. absurd (n z);
          sets = λ f m g y. clash (cc);
        }

    called-some : {after : List ℕ} → (r ≡ 0 → ⊥) → after ≡ push_of ws (ground t w) at.depth at.place s
        → Called t w ws after at.depth at.place a at.position r
    unfolding Serving
    called-some n same =
        let (f, g) = lowest-named t ws a at.position s e n in
        let room = waits-roomy t x.ready w x.lent x.waits r f g in
        record {
          chosen = chosen_is;
          kept = ap length same ∙ length_push ws (ground t w) at.depth at.place s;
          charted = rw same (push-charted ws (ground t w) at.depth at.place s room t w refl x.charted);
          pushed = λ _. rw same (push-pushed ws (ground t w) at.depth at.place s room);
          sets = λ f m g y.
              let k = derives-inside t x.ready w f at.position m (ready-first t x.ready a r f g) calling-position y in
              rw same (push-has ws (ground t w) at.depth at.place s room m (omega (arith, x.lent.short)) ∙ right r f m g y);
        }

    pub call-leaves : {after : List ℕ} → after ≡ push_if r ws space.base at.depth at.place s
        → Called t w ws after at.depth at.place a at.position r
    call-leaves {after} z = go r refl (rw x.spaced.base at z)
      where
        go : (b : ℕ) → r ≡ b → after ≡ push_if r ws (ground t w) at.depth at.place s
            → Called t w ws after at.depth at.place a at.position r
        go zero u z = called-none u (rw u at z)
        go (suc b) u z = called-some (λ v. omega arith) (rw u at z)
