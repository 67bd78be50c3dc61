-- The cells and the lowest frame's set, once there is need of them.
use mathlib.Core.Path.{◌≡◌, refl, sym, ap, ◌∙◌}
use mathlib.Core.List.{List, [], ◌∷◌}
use Prim.Native.Nat.{ℕ, ◌+◌, ◌*◌, ◌≤◌, ◌<◌, min}
use native.Mathlib.Omega.{arith}
use lib.ListN.{length}
use Rattle.grammar.specs.inside.Tables.{grammar_in}
use Rattle.positions.specs.inside.Positions.{empty_set, with_of}
use Rattle.positions.specs.inside.Words.{put_at}
use Rattle.derivation.specs.Runs.{marked}
use Rattle.derivation.specs.Cells.{runs?}
use Rattle.derivation.specs.inside.Frames.{frame_words, returns_of}
use Rattle.derivation.specs.inside.Ready.{Ready}
use Rattle.cells.specs.inside.Chart.{Filled}
use Rattle.cells.proofs.Spots.{lent-kept}
use Rattle.machine.specs.inside.Frames.{FramesBelow, frame_has}
use Rattle.machine.specs.inside.Space.{ground}
use Rattle.machine.proofs.GoodLaws.{good-fewer}
use Rattle.machine.proofs.ServingLaws.{end-runs}
use Rattle.serving.specs.inside.Sets.{return_at, SetsOnly, Standing, Tabled}
use Rattle.serving.proofs.FloorLaws.{good-floor}
use Rattle.serving.proofs.RestLaws.{rest_put, only_none, only-put, only-charted}

module _ (t : List ℕ) (h : Ready t) (w ws : List ℕ) {d p i known : ℕ} (x : Standing t w ws known d p i) where
  -- the cells are filled, and the end place's set is put
  table-first : (us : List ℕ) → Filled t w ws us → Tabled t w ws (put_at us (ground t w + frame_words * 0 + 1) (with_of empty_set (length w))) d p i 1
  unfolding returns_of
  table-first us f =
      record {
        unsettled = record {
          framed = record {
            lent = lent-kept long x.lent;
            begins = refl;
            some = omega arith;
            most = x.floored.some;
            room = omega (arith, long, x.room);
            returns = λ k l m. rw (returns k) (x.floored.places k l m);
          };
          charted = only-charted only t w refl f.charted;
          place = x.place;
          position = x.position;
          good = good-floor t h after (ground t w) w right d p i x.place x.position (λ k l m. rw (returns k) (x.floored.places k l m));
        };
        kept = long;
        returns = returns;
      }
    where
      after : List ℕ
      after = put_at us (ground t w + frame_words * 0 + 1) (with_of empty_set (length w))

      only : SetsOnly (ground t w) 0 1 us after
      only =
          only-put 0 (with_of empty_set (length w)) (omega arith) (omega arith) (omega arith) (omega arith)
          (only_none {base = ground t w} {known = 0} {d = 1})

      long : length after ≡ length ws
      long = only.long ∙ f.kept

      returns : (k : ℕ) → return_at after (ground t w) k ≡ return_at ws (ground t w) k
      returns k = only.places k ∙ f.behind (ground t w + frame_words * k) (omega arith)

      right : (m : ℕ) → m ≤ length w → frame_has after (ground t w) 0 m ≡ runs? (grammar_in t) (marked w) (return_at after (ground t w) 0 ∷ []) m
      right m k =
          rest_put us (ground t w) 0 (with_of empty_set (length w)) m (omega (arith, f.kept, x.room, x.floored.some)) (omega (arith, x.lent.short))
          ∙ (end-runs t h w x.lent.short m k
          ∙ ap (λ (q : ℕ). runs? (grammar_in t) (marked w) (q ∷ []) m) (sym (returns 0 ∙ x.floored.bottom)))

  pub table-put : {base : ℕ} {e s us after : List ℕ} → base ≡ ground t w → e ≡ empty_set → s ≡ with_of e (length w)
      → after ≡ put_at us (base + frame_words * 0 + 1) s → Filled t w ws us → Tabled t w ws after d p i 1
  table-put {us = us} b e q z f = rw (z, q, e, b) (table-first us f)

  -- they are there
  pub table-again : {r : ℕ} → 0 < known → r ≡ min known d → Tabled t w ws ws d p i r
  table-again {r} n e =
      let k = x.floored.some in
      record {
        unsettled = record {
          framed = record {
            lent = x.lent;
            begins = refl;
            some = omega arith;
            most = omega arith;
            room = x.room;
            returns = λ k l m. x.floored.places k (omega arith) m;
          };
          charted = x.charted n;
          place = x.place;
          position = x.position;
          good = good-fewer (grammar_in t) (marked w) (ground t w) ws (FramesBelow known) (FramesBelow r) d p i (λ j l m. omega arith) x.good;
        };
        kept = refl;
        returns = λ k. refl;
      }
