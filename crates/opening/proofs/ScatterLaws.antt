-- From the positions of a set down over open frames, frame by frame: what is kept on the way, and what each way out says.
use mathlib.Core.Path.{◌≡◌, sym, ◌∙◌}
use mathlib.Core.Logic.{◌↔◌}
use mathlib.Core.Bool.{Bool, true, false}
use mathlib.Core.List.{List, ◌∷◌}
use Prim.Native.Nat.{ℕ, suc, ◌+◌, ◌*◌, ◌≤◌, ◌<◌}
use native.Mathlib.Omega.{arith}
use lib.Dec.{T}
use lib.ListN.{length, get_or}
use Rattle.std.specs.Prelude.{Ok, Err}
use Rattle.positions.specs.declared.Positions.{Positions}
use Rattle.grammar.specs.Grammar.{owner}
use Rattle.grammar.specs.inside.Tables.{grammar_in}
use Rattle.positions.specs.inside.Positions.{member}
use Rattle.derivation.specs.Runs.{marked, Opens}
use Rattle.derivation.specs.inside.Frames.{frame_words, returns_of}
use Rattle.first_follow.specs.inside.Words.{masks_in}
use Rattle.filtering.specs.inside.Filtered.{EndsFrom}
use Rattle.filtering.specs.inside.OpenStacks.{Open, Reached}
use Rattle.filtering.proofs.OpensLaws.{opens-from}
use Rattle.search.specs.inside.Walks.{Within, MayWalk}
use Rattle.opening.specs.inside.Marks.{mark_at, holds_of}
use Rattle.opening.specs.inside.Stacks.{StackKept}
use Rattle.opening.specs.inside.Leading.{Worked, LedAll}
use Rattle.opening.specs.inside.Descent.{MaySpread, Scattered}
use Rattle.search.specs.declared.words.Size.{Size}
use Rattle.search.specs.declared.meter.Meter.{Meter}
use Rattle.search.specs.declared.meter.Exhausted.{Exhausted}
use Rattle.opening.proofs.KeptLaws.{returns-kept}
use Rattle.opening.proofs.MarkLaws.{holds-T, kept-worked}
use Rattle.opening.proofs.FrameLaws.{open-some, returns-top, opens-lowest, next_place, reached-below, reached-top}
use Rattle.opening.proofs.DescentLaws.{Going, going-none, going-worked, going-searching, stack-order, stack-closed}

-- the stack S opens from some member of x, and is reached at all of them
abbrev OpensAmong : List ℕ → List ℕ → List ℕ → List ℕ → Type 0
OpensAmong t w x S = (j : ℕ) × T (member x j) × Opens (grammar_in t) (marked w) S j

abbrev ReachedAmong : List ℕ → List ℕ → List ℕ → List ℕ → Type 0
ReachedAmong t w x S = (j : ℕ) → T (member x j) → Reached (grammar_in t) (marked w) S j

-- the stack S at the members of x stands for place q over d frames at those of x₀
pub record Spread (t w ms ws₀ : List ℕ) (base d known q : ℕ) (x₀ : List ℕ) (m : Meter) (ws : List ℕ) (at : Meter) (S x : List ℕ) : Type 0 where
  pub going : Going t w ms ws₀ base known (ReachedAmong t w x₀ (q ∷ returns_of ws₀ base d)) m ws at
  pub within : Within w x
  pub same : OpensAmong t w x₀ (q ∷ returns_of ws₀ base d) ↔ OpensAmong t w x S
  pub reached : ReachedAmong t w x₀ (q ∷ returns_of ws₀ base d) → ReachedAmong t w x S

-- place p of an open production at the members of x over the lowest k frames
pub record Spreading (t w ms ws₀ : List ℕ) (base d known q : ℕ) (x₀ : List ℕ) (m : Meter) (ws : List ℕ) (at : Meter) (p : ℕ) (x : List ℕ) (k : ℕ) : Type 0 where
  pub spread : Spread t w ms ws₀ base d known q x₀ m ws at (p ∷ returns_of ws₀ base k) x
  pub low : k ≤ d
  pub stack : Open (grammar_in t) (owner (grammar_in t) p) (returns_of ws₀ base k)
  pub place : p < (grammar_in t).size

module _ {t w ms ws₀ : List ℕ} {s : Size} {base d known q : ℕ} {x₀ : List ℕ} {m : Meter} (may : MaySpread t w ms ws₀ s base d known q x₀) where
  pub spread-begins : Spreading t w ms ws₀ base d known q x₀ m ws₀ m q x₀ d
  spread-begins = record {
    spread = record { going = going-none may.stacked; within = may.within; same = (λ x. x, λ x. x); reached = λ x. x };
    low = omega arith;
    stack = may.stack;
    place = may.place;
  }

  module _ {ws : List ℕ} {at : Meter} {p : ℕ} {x : List ℕ} {k : ℕ} (h : Spreading t w ms ws₀ base d known q x₀ m ws at p x k) where
    pub spread-some : 0 < k
    spread-some = open-some ws₀ base k h.stack

    pub spread-walk : MayWalk t w ms ws s p x
    spread-walk = record {
      searching = going-searching may.stacked.searching h.spread.going;
      sized = may.stacked.sized;
      place = h.place;
      within = h.spread.within;
    }

    -- where the set leads is known, in other words
    pub spread-kept : {us : List ℕ} {r : Meter} → Worked t w ms ws us at r → StackKept t w ms ws₀ us base known
    spread-kept {us} y = kept-worked t w ms base known may.stacked.behind ws₀ ws us y.kept y.holds h.spread.going.kept

    pub spread-room : {us : List ℕ} {r : Meter} {l : ℕ} → Worked t w ms ws us at r → l < k → base + frame_words * suc l ≤ length us
    spread-room y l = omega (arith, may.stacked.room, h.low, (spread-kept y).long)

    -- the budget is out
    pub spread-out : {us : List ℕ} {r last : Meter} {z : Exhausted} → Worked t w ms ws us at r → last.left ≤ r.left
        → Scattered t w ms ws₀ us base d known q x₀ m last (Err z)
    spread-out y l = record { kept = spread-kept y; spent = omega (arith, h.spread.going.spent, y.spent); told = tt }

    module _ {us : List ℕ} {r paid : Meter} {to : Positions} {l : ℕ} (y : LedAll t w ms ws us p x at r (Ok to)) (fewer : paid.left ≤ r.left)
        (same : paid.high ≡ r.high) (e : k ≡ suc l) where
      -- on the frame below
      frame-all : Spread t w ms ws₀ base d known q x₀ m us paid (returns_of ws₀ base (suc l)) to.words
      frame-all = record {
        going = going-worked may.stacked.behind h.spread.going y.worked
            (λ z c. y.there.far (λ i u. reached-top ws₀ base k spread-some (h.spread.reached z i u)) c) fewer same;
        within = y.there.within;
        same = (
          λ o. there ((opens-from (stack-order may.stacked) (stack-closed may.stacked) (λ i. T (member x i)) h.stack).0 (h.spread.same.0 o)),
          λ o. h.spread.same.1 (from o),
        );
        reached = λ z j u. down j ((y.there.ends j).1 u) (h.spread.reached z);
      }
        where
          there : (j : ℕ) × EndsFrom (grammar_in t) (masks_in ms) (marked w) (λ i. T (member x i)) p j × Opens (grammar_in t) (marked w)
              (returns_of ws₀ base k) j
              → OpensAmong t w to.words (returns_of ws₀ base (suc l))
          there (j, u, v) = (j, (y.there.ends j).0 u, rw e at v)

          from : OpensAmong t w to.words (returns_of ws₀ base (suc l)) → OpensAmong t w x (p ∷ returns_of ws₀ base k)
          from (j, u, v) =
              (opens-from (stack-order may.stacked) (stack-closed may.stacked) (λ i. T (member x i)) h.stack).1 (j, (y.there.ends j).1 u, rw e v)

          down : (j : ℕ) → EndsFrom (grammar_in t) (masks_in ms) (marked w) (λ i. T (member x i)) p j
              → ReachedAmong t w x (p ∷ returns_of ws₀ base k) → Reached (grammar_in t) (marked w) (returns_of ws₀ base (suc l)) j
          down j (i, u, v) z = reached-below (returns_of ws₀ base (suc l)) (rw e at (z i u)) v

      open-all : Open (grammar_in t) (owner (grammar_in t) p) (returns_of ws₀ base (suc l))
      open-all = rw (← e) h.stack

      -- ---- at a frame
      -- its mark is among the positions
      pub spread-met : T (holds_of us base known l to.words)
          → Scattered t w ms ws₀ us base d known q x₀ m paid (Ok (record { yes = true; single = false }))
      spread-met u = record {
        kept = frame-all.going.kept;
        spent = frame-all.going.spent;
        told = record { several = λ v. v; answer = (λ z. frame-all.same.1 here, λ z. tt); far = frame-all.going.far };
      }
        where
          here : OpensAmong t w to.words (returns_of ws₀ base (suc l))
          here =
              let z = holds-T us base known l to.words u in
              (mark_at us base l, z.1, rw (returns-kept ws₀ us base (suc l) frame-all.going.kept.places) at (frame-all.going.kept.marks l z.0))

      -- the next place to go on from
      pub spread-next : {o : ℕ} → ¬ (l ≡ 0) → o ≡ get_or us (base + frame_words * l) 0
          → Spreading t w ms ws₀ base d known q x₀ m us paid o to.words l
      spread-next {o} z f =
          let g = f ∙ frame-all.going.kept.places l in
          let y = next_place ws₀ base t w may.stacked.searching.given.ready l o (omega arith) open-all g in
          let c = returns-top ws₀ base l o g in
          record { spread = rw c at frame-all; low = omega (arith, h.low); stack = y.1; place = y.0 }

    -- it is the lowest, where the note's end is due
    pub spread-lowest : {us : List ℕ} {r paid : Meter} {to : Positions} {n : ℕ} {yes : Bool} → LedAll t w ms ws us p x at r (Ok to)
        → paid.left ≤ r.left → paid.high ≡ r.high → k ≡ 1 → n ≡ length w → yes ≡ member to.words n
        → Scattered t w ms ws₀ us base d known q x₀ m paid (Ok (record { yes = yes; single = false }))
    spread-lowest {us} {r} {paid} {to} {n} {yes} y fewer same e f g = record {
      kept = below.going.kept;
      spent = below.going.spent;
      told = record { several = λ v. v; answer = (λ u. below.same.1 (here u), λ o. there (below.same.0 o)); far = below.going.far };
    }
      where
        below : Spread t w ms ws₀ base d known q x₀ m us paid (returns_of ws₀ base 1) to.words
        below = frame-all y fewer same e

        ends : (j : ℕ) → Opens (grammar_in t) (marked w) (returns_of ws₀ base 1) j ↔ (j ≡ length w)
        ends j = opens-lowest ws₀ base t w may.stacked.searching.given.ready j (open-all y fewer same e)

        here : T yes → OpensAmong t w to.words (returns_of ws₀ base 1)
        here u = (n, rw g at u, (ends n).1 f)

        there : OpensAmong t w to.words (returns_of ws₀ base 1) → T yes
        there (j, u, v) = let c : j ≡ n = (ends j).0 v ∙ sym f in rw (g, ← c) u
