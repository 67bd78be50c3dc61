-- A pick where a search may have to begin first, and one where it is known that some alternative serves.
use mathlib.Core.Path.{◌≡◌, refl}
use mathlib.Core.Option.{some}
use mathlib.Core.List.{List}
use Prim.Native.Nat.{ℕ, suc, ◌+◌, ◌-◌, ◌*◌, ◌≤◌, ◌<◌, min}
use native.Mathlib.Omega.{arith}
use native.Mathlib.Decide.{dec_lt}
use lib.ListN.{set}
use Rattle.std.specs.Prelude.{Some}
use Rattle.grammar.specs.inside.Tables.{grammar_in}
use Rattle.derivation.specs.Runs.{marked}
use Rattle.derivation.specs.Machine.{lowest}
use Rattle.derivation.specs.inside.Frames.{frame_words, returns_of}
use Rattle.derivation.proofs.FrameWords.{returns-same}
use Rattle.cells.proofs.Spots.{lent-kept}
use Rattle.machine.specs.inside.Space.{ground, opened}
use Rattle.machine.specs.declared.steps.At.{At}
use Rattle.machine.specs.declared.steps.Space.{Space}
use Rattle.machine.proofs.LowestLaws.{numbered_some}
use Rattle.opening.specs.inside.Choice.{Taken, LowestWhere}
use Rattle.opening.specs.declared.choice.Pick.{Pick}
use Rattle.serving.specs.inside.Serving.{Waiting, Found}
use Rattle.serving.specs.inside.Aids.{tally_of, budget_in, Stage, SetsStand, Far, Tallied, MayBegin, Begun}
use Rattle.serving.specs.inside.Aids.{MayServe, MaySearch, MayTake, Served, ServedFar}
use Rattle.serving.proofs.UprightLaws.{upright-open, upright-on}
use Rattle.serving.proofs.StageLaws.{stage-none, waits-bare}
use Rattle.serving.proofs.PickLaws.{served-from, found_from, cells-served, cells-far, serve-waiting, serve-bare, worked-returns, worked-serve}
use Rattle.serving.proofs.PickLaws.{told-served}

-- ---- a search may have to begin first
module _ (t w : List ℕ) {ms tally ws : List ℕ} {s : Space} {known : ℕ} {at : At} {a : ℕ} (x : MayServe t w ms tally ws s known at a) where
  pub serve-begins : MayBegin t w ms tally ws
  serve-begins = record { told = x.told; blank = λ e. (stage-none e x.stage).0 }

  module _ {ms' tally' us : List ℕ} (y : Begun t w ms tally ws ms' tally' us) where
    same : returns_of us (ground t w) at.depth ≡ returns_of ws (ground t w) at.depth
    same = returns-same ws us (ground t w) at.depth (λ j m n. y.behind j m)

    -- none had begun: what it has to choose by is its own, or nothing where its budget is out at once
    fresh-stage : budget_in tally ≡ 0 → Stage t w ms' tally' us known
    fresh-stage e = go (stage-none e x.stage).1 (dec_lt 1 (budget_in tally'))
      where
        go : known ≡ 0 → Dec (1 < budget_in tally') → Stage t w ms' tally' us known
        go z (yes l) = let f = y.fresh e l in Stage.search l f.0 f.1 (λ k m. absurd (omega arith))
        go z (no l) = let n = y.begun in Stage.table (omega arith) (λ m. absurd (omega arith))

    fresh-serve : budget_in tally ≡ 0 → MayServe t w ms' tally' us s known at a
    fresh-serve e =
        let z : known ≡ 0 = (stage-none e x.stage).1 in
        record {
          told = record { ready = x.told.ready; tokens = x.told.tokens; lent = lent-kept y.long x.told.lent; tallied = y.tallied };
          spaced = x.spaced;
          stage = fresh-stage e;
          waits = waits-bare (SetsStand tally' known) (λ k u. omega (arith, u.1)) same x.waits;
          upright = upright-on same x.upright;
        }

    pub begun-serve : MayServe t w ms' tally' us s known at a
    begun-serve = go (dec_lt 0 (budget_in tally))
      where
        go : Dec (0 < budget_in tally) → MayServe t w ms' tally' us s known at a
        go (yes l) = let (e, f, g) = y.same (λ z. omega arith) in rw (e, f, g) x
        go (no l) = fresh-serve (omega arith)

    begun-far : Far t w ms tally ws → Far t w ms' tally' us
    begun-far h = go (dec_lt 0 (budget_in tally))
      where
        go : Dec (0 < budget_in tally) → Far t w ms' tally' us
        go (yes l) = let (e, f, g) = y.same (λ z. omega arith) in rw (e, f, g) h
        go (no l) = λ n. (y.fresh (omega arith) n).2

    pub begun-served : {ms'' tally'' after : List ℕ} {known' r : ℕ}
        → ServedFar t w ms' tally' us ms'' tally'' after at.depth at.place a at.position known' r
        → ServedFar t w ms tally ws ms'' tally'' after at.depth at.place a at.position known' r
    begun-served h = record { served = served-from y.long same h.served; far = λ f. h.far (begun-far f) }

    -- its budget is out
    module _ (out : budget_in tally' ≤ 1) where
      one : budget_in tally' ≡ 1
      one = let n = y.begun in omega arith

      pub begun-waiting : Waiting t w us s known at a
      begun-waiting = serve-waiting t w begun-serve one

      pub begun-cells : {after : List ℕ} {known' r : ℕ} → known' ≡ at.depth + 1 → Found t w us after at.depth at.place a at.position r
          → ServedFar t w ms tally ws ms' tally' after at.depth at.place a at.position known' r
      begun-cells z f = begun-served (cells-far one (cells-served y.tallied one z f))

-- ---- it is known that some alternative serves
module _ (t w : List ℕ) {ms tally ws : List ℕ} {s : Space} {known : ℕ} {at : At} {a : ℕ} (x : MayTake t w ms tally ws s known at a) where
  -- a search has no budget
  module _ (out : budget_in tally < 2) where
    only : budget_in tally ≡ 1
    only = let n = x.begun in omega arith

    pub take-waiting : Waiting t w ws s known at a
    take-waiting = serve-waiting t w x.serve only

    pub take_cells : {after : List ℕ} {known' r : ℕ} → known' ≡ at.depth + 1 → Found t w ws after at.depth at.place a at.position r
        → Served t w ms tally ws ms tally after at.depth at.place a at.position known' r
    take_cells z f = cells-served x.serve.told.tallied only z f

  -- it has some
  module _ (l : 1 < budget_in tally) {us : List ℕ} {m : ℕ} {r : Pick} (from : m ≡ budget_in tally - 1) (y : Taken t w ms ws us a at.position m r)
      {tally' : List ℕ} {high : ℕ} (t' : tally' ≡ tally_of (suc r.left) high) where
    unchanged : returns_of us (ground t w) at.depth ≡ returns_of ws (ground t w) at.depth
    unchanged = worked-returns t w x.serve l y.kept y.holds

    tallied : Tallied tally'
    tallied = rw t' (record { long = refl; few = omega (arith, y.spent, x.serve.told.tallied.few) })

    -- that is spent now
    module _ (n : r.left ≡ 0) where
      pub spent-waiting : Waiting t w us s 0 at a
      spent-waiting = serve-bare t w x.serve y.kept.long unchanged

      pub spent-served : {after : List ℕ} {known' b : ℕ} → known' ≡ at.depth + 1 → Found t w us after at.depth at.place a at.position b
          → Served t w ms tally ws ms tally' after at.depth at.place a at.position known' b
      spent-served z f = cells-served tallied (rw (t', n) refl) z (found_from y.kept.long unchanged f)

    module _ (n : ¬ (r.left ≡ 0)) where
      more : 1 < budget_in tally'
      more = rw t' (omega arith)

      pub taking : MayServe t w ms tally' us s known at a
      taking = worked-serve t w x.serve l y.kept y.holds tallied more

      -- it is not told at once
      pub taking-search : MaySearch t w ms tally' us s known at a
      taking-search = record { serve = taking; budget = more }

      pub search-taken : {tally'' after : List ℕ} {known' b : ℕ}
          → ServedFar t w ms tally' us ms tally'' after at.depth at.place a at.position known' b
          → Served t w ms tally ws ms tally'' after at.depth at.place a at.position known' b
      search-taken h = served-from y.kept.long unchanged h.served

      -- it is: the return place becomes the topmost frame
      pub told-taken : {b : ℕ} → r.alternative ≡ Some b → {after : List ℕ} {known' : ℕ}
          → after ≡ set us (s.base + frame_words * at.depth) at.place → known' ≡ min known at.depth
          → ¬ (b ≡ 0) × Served t w ms tally ws ms tally' after at.depth at.place a at.position known' b
      told-taken {b} told put fewer =
          let (named, taken) = numbered_some (LowestWhere t w a at.position) y.taken told in
          let e : lowest (grammar_in t) (marked w) (opened t w ws at.depth at.place) a at.position ≡ some b
          = taken (opened t w ws at.depth at.place) (upright-open t w ws x.serve.upright) (x.serves l).0 (x.serves l).1 named in
          (named, served-from y.kept.long unchanged (told-served t w taking more put fewer b (rw (unchanged, e) refl)))
