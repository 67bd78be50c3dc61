-- An alternative is picked where a nonterminal waits: by the cells; by a search down the stack, over the frame of the return place; or told at once. What is
-- said of words with the same return places is said of the words before, so the one may go on from where the other stopped.
use mathlib.Core.Path.{◌≡◌, refl, ap, ◌∙◌}
use mathlib.Core.List.{List, ◌∷◌}
use Prim.Native.Nat.{ℕ, suc, ◌+◌, ◌-◌, ◌*◌, ◌≤◌, ◌<◌, min}
use native.Mathlib.Omega.{arith}
use lib.ListN.{length, set}
use Rattle.grammar.specs.inside.Tables.{grammar_in, nonterminals_in}
use Rattle.derivation.specs.Runs.{marked}
use Rattle.derivation.specs.Machine.{lowest}
use Rattle.derivation.specs.inside.Frames.{frame_words, returns_of}
use Rattle.derivation.proofs.FrameWords.{returns-same}
use Rattle.cells.proofs.Spots.{lent-kept}
use Rattle.machine.specs.inside.Frames.{EveryFrame, FramesBelow}
use Rattle.machine.specs.inside.Choice.{or_zero, Numbered}
use Rattle.machine.specs.inside.Space.{ground, opened}
use Rattle.machine.specs.declared.steps.At.{At}
use Rattle.machine.specs.declared.steps.Space.{Space}
use Rattle.machine.proofs.GoodLaws.{good-fewer}
use Rattle.machine.proofs.LowestLaws.{numbered-map}
use Rattle.machine.proofs.PushLaws.{put-below}
use Rattle.machine.proofs.WaitLaws.{waits-fewer, waits-small, waits-named, waits-position}
use Rattle.search.specs.inside.Words.{search_words, Kept}
use Rattle.search.specs.inside.Searching.{Searching, Sized, Holds, Pair, MayAsk}
use Rattle.search.specs.inside.Trials.{CameSoFar}
use Rattle.search.specs.declared.words.Size.{Size}
use Rattle.search.specs.declared.meter.Meter.{Meter}
use Rattle.opening.specs.inside.Marks.{Marks}
use Rattle.opening.specs.inside.Choice.{MayChoose, Chosen}
use Rattle.opening.specs.declared.choice.Found as search
use Rattle.opening.proofs.KeptLaws.{returns-kept, searching-on}
use Rattle.serving.specs.inside.Serving.{Waiting, Entering, Found}
use Rattle.serving.specs.inside.Aids.{tally_of, budget_in, high_in, Stage, SetsStand, Far, Tallied}
use Rattle.serving.specs.inside.Aids.{MayServe, Served, ServedFar}
use Rattle.serving.proofs.WaitingLaws.{waiting-room, taken-entering}
use Rattle.serving.proofs.UprightLaws.{upright-open, upright-reached, upright-on}
use Rattle.serving.proofs.StageLaws.{stage-search, stage-table, good_none, waits-bare, search-behind, searching-same, came_same}
use Rattle.serving.proofs.StageLaws.{came-kept, marks-same}

-- ---- words with the same return places
chosen-from : (t w ws us : List ℕ) (d q a i : ℕ) → returns_of us (ground t w) d ≡ returns_of ws (ground t w) d → {r : ℕ}
    → r ≡ or_zero (lowest (grammar_in t) (marked w) (opened t w us d q) a i) → r ≡ or_zero (lowest (grammar_in t) (marked w) (opened t w ws d q) a i)
chosen-from t w ws us d q a i same e = e ∙ ap (λ (S : List ℕ). or_zero (lowest (grammar_in t) (marked w) (q ∷ S) a i)) same

module _ {t w ws us : List ℕ} {d q a i : ℕ} (long : length us ≡ length ws) (same : returns_of us (ground t w) d ≡ returns_of ws (ground t w) d) where
  entering-from : {after : List ℕ} {K : ℕ → Type 0} {r : ℕ} → Entering t w us after K d q a i r → Entering t w ws after K d q a i r
  entering-from h =
      record { kept = h.kept ∙ long; returns = λ n. h.returns n ∙ ap (λ (S : List ℕ). q ∷ S) same; held = h.held; good = h.good }

  pub found_from : {after : List ℕ} {r : ℕ} → Found t w us after d q a i r → Found t w ws after d q a i r
  found_from h = record { chosen = chosen-from t w ws us d q a i same h.chosen; charted = h.charted; entering = entering-from h.entering }

  pub served-from : {ms tally ms₀ tally₀ ms' tally' after : List ℕ} {known' r : ℕ} → Served t w ms tally us ms' tally' after d q a i known' r
      → Served t w ms₀ tally₀ ws ms' tally' after d q a i known' r
  served-from h =
      record {
        chosen = chosen-from t w ws us d q a i same h.chosen;
        tallied = h.tallied;
        begun = h.begun;
        stage = h.stage;
        entering = entering-from h.entering;
      }

-- ---- by the cells
pub cells-served : {t w ms tally ws ms' tally' after : List ℕ} {d q a i known' r : ℕ} → Tallied tally' → budget_in tally' ≡ 1 → known' ≡ d + 1
    → Found t w ws after d q a i r → Served t w ms tally ws ms' tally' after d q a i known' r
cells-served {t} {w} {tally' = tally'} {after = after} {d = d} {i = i} {known' = known'} y e z h =
    record {
      chosen = h.chosen;
      tallied = y;
      begun = λ n. omega arith;
      stage = Stage.table e (λ _. h.charted);
      entering = record {
        kept = h.entering.kept;
        returns = h.entering.returns;
        held = h.entering.held;
        good = λ f x. good-fewer (grammar_in t) (marked w) (ground t w) after EveryFrame (SetsStand tally' known') (suc d) f i (λ k l m. tt)
            (h.entering.good f x);
      };
    }

-- how far a search came is not said then
pub cells-far : {t w ms tally ws ms' tally' after : List ℕ} {d q a i known' r : ℕ} → budget_in tally' ≡ 1
    → Served t w ms tally ws ms' tally' after d q a i known' r → ServedFar t w ms tally ws ms' tally' after d q a i known' r
cells-far e h = record { served = h; far = λ f l. absurd (omega arith) }

module _ (t w : List ℕ) {ms tally ws : List ℕ} {s : Space} {known : ℕ} {at : At} {a : ℕ} (x : MayServe t w ms tally ws s known at a) where
  pub serve-waiting : budget_in tally ≡ 1 → Waiting t w ws s known at a
  serve-waiting e =
      record {
        ready = x.told.ready;
        spaced = x.spaced;
        lent = x.told.lent;
        charted = stage-table e x.stage;
        waits = waits-fewer (SetsStand tally known) (FramesBelow known) (λ k l m. (e, m)) x.waits;
      }

  -- nothing but return places stands
  pub serve-bare : {us : List ℕ} → length us ≡ length ws → returns_of us (ground t w) at.depth ≡ returns_of ws (ground t w) at.depth
      → Waiting t w us s 0 at a
  serve-bare long same =
      record {
        ready = x.told.ready;
        spaced = x.spaced;
        lent = lent-kept long x.told.lent;
        charted = λ l. absurd (omega arith);
        waits = waits-bare (FramesBelow 0) (λ k l. omega arith) same x.waits;
      }

  pub serve-room : s.base + frame_words * suc at.depth ≤ length ws
  serve-room = waiting-room t w ws (serve-bare refl refl) x.spaced.base

  pub serve-place : at.place < 4294967296
  serve-place = omega (arith, waits-small t x.told.ready w x.waits)

  serve-pair : Pair t w a at.position
  serve-pair = (waits-named t x.told.ready w x.waits, waits-position t x.told.ready w x.waits)

  -- ---- a search has budget
  module _ (l : 1 < budget_in tally) where
    behind : search_words (nonterminals_in t) (length w) ≤ ground t w
    behind = search-behind t w (stage-search l x.stage).0

    pub serve-asks : {z : Size} → Sized t w z → MayAsk t w ms ws z a at.position
    serve-asks z = record { searching = (stage-search l x.stage).1; sized = z; pair = serve-pair }

    -- pairs were worked out, and there is budget
    module _ {us : List ℕ} (kept : Kept (search_words (nonterminals_in t) (length w)) ws us) (holds : Holds t w ms us) where
      pub worked-returns : returns_of us (ground t w) at.depth ≡ returns_of ws (ground t w) at.depth
      worked-returns = returns-same ws us (ground t w) at.depth (λ j m n. kept.word j (omega (arith, behind)))

      pub worked-serve : {tally' : List ℕ} → Tallied tally' → 1 < budget_in tally' → MayServe t w ms tally' us s known at a
      worked-serve {tally'} y n =
          record {
            told = record { ready = x.told.ready; tokens = x.told.tokens; lent = lent-kept kept.long x.told.lent; tallied = y };
            spaced = x.spaced;
            stage = Stage.search n (stage-search l x.stage).0 (searching-on (stage-search l x.stage).1 kept.long holds)
                (marks-same (grammar_in t) (marked w) ws us (ground t w) known (λ j u v. kept.word j (omega (arith, behind)))
                (stage-search l x.stage).2);
            waits = waits-bare (SetsStand tally' known) (λ k u. omega (arith, u.0)) worked-returns x.waits;
            upright = upright-on worked-returns x.upright;
          }

    -- ---- the return place becomes the topmost frame
    module _ {mid : List ℕ} (put : mid ≡ set ws (s.base + frame_words * at.depth) at.place) {known' : ℕ} (fewer : known' ≡ min known at.depth) where
      pushed-entering : (b : ℕ) → Entering t w ws mid (FramesBelow 0) at.depth at.place a at.position b
      pushed-entering b = taken-entering t w ws (serve-bare refl refl) x.spaced.base put (omega arith) b

      pushed_long : length mid ≡ length ws
      pushed_long = (pushed-entering 1).kept

      pushed-returns : returns_of mid (ground t w) (suc at.depth) ≡ opened t w ws at.depth at.place
      pushed-returns = (pushed-entering 1).returns (λ e. omega arith)

      pushed-bare : returns_of mid (ground t w) at.depth ≡ returns_of ws (ground t w) at.depth
      pushed-bare = returns-same ws mid (ground t w) at.depth (λ j m n. put-below ws at.depth at.place x.spaced.base put j n)

      pushed-searching : Searching t w ms mid
      pushed-searching =
          searching-same t w ws mid (λ j u. put-below ws at.depth at.place x.spaced.base put j (omega (arith, behind))) pushed_long
          (stage-search l x.stage).1

      pushed-marks : Marks (grammar_in t) (marked w) mid (ground t w) known'
      pushed-marks =
          marks-same (grammar_in t) (marked w) ws mid (ground t w) known' (λ j u v. put-below ws at.depth at.place x.spaced.base put j (omega arith))
          (λ k u. (stage-search l x.stage).2 k (omega arith))

      -- frames that are entered so, whatever else was written into words that keep the return places
      entered : {us : List ℕ} (K : ℕ → Type 0) (r : ℕ) → ((k : ℕ) → ¬ K k) → length us ≡ length mid
          → returns_of us (ground t w) (suc at.depth) ≡ returns_of mid (ground t w) (suc at.depth)
          → Entering t w ws us K at.depth at.place a at.position r
      entered {us} K r none long same =
          record {
            kept = long ∙ pushed_long;
            returns = λ n. same ∙ pushed-returns;
            held = λ f e. rw same ((pushed-entering r).held f e);
            good = λ f e. good_none (grammar_in t) (marked w) us (ground t w) K (suc at.depth) f at.position none;
          }

      -- told at once
      pub told-served : (r : ℕ) → r ≡ or_zero (lowest (grammar_in t) (marked w) (opened t w ws at.depth at.place) a at.position)
          → Served t w ms tally ws ms tally mid at.depth at.place a at.position known' r
      told-served r e =
          record {
            chosen = e;
            tallied = x.told.tallied;
            begun = λ n. omega arith;
            stage = Stage.search l (stage-search l x.stage).0 pushed-searching pushed-marks;
            entering = entered (SetsStand tally known') r (λ k u. omega (arith, u.0)) refl refl;
          }

      -- ---- the search goes down the stack
      pub search-chooses : {z : Size} {d : ℕ} → Sized t w z → d ≡ suc at.depth → MayChoose t w ms mid z s.base d known' a at.position
      search-chooses z e =
          rw (x.spaced.base, e)
          (record {
            stacked = record {
              searching = pushed-searching;
              sized = z;
              behind = behind;
              room = omega (arith, serve-room, x.spaced.base, pushed_long);
              marks = pushed-marks;
            };
            few = omega arith;
            stack = rw pushed-returns (upright-open t w ws x.upright);
            pair = serve-pair;
          })

      module _ {us : List ℕ} {d : ℕ} (e : d ≡ suc at.depth) {m : Meter} {r : search.Found}
          (y : Chosen t w ms mid us s.base d known' a at.position m r) where
        abbrev Gone : Type 0
        Gone = Chosen t w ms mid us (ground t w) (suc at.depth) known' a at.position m r

        gone : Gone
        gone = let z : s.base ≡ ground t w = x.spaced.base in rw (z, e) at y

        gone_long : length us ≡ length ws
        gone_long = gone.kept.long ∙ pushed_long

        gone_same : (k : ℕ) → returns_of us (ground t w) k ≡ returns_of mid (ground t w) k
        gone_same k = returns-kept mid us (ground t w) k gone.kept.places

        gone-bare : returns_of us (ground t w) at.depth ≡ returns_of ws (ground t w) at.depth
        gone-bare = gone_same at.depth ∙ pushed-bare

        pub gone-less : m.left ≡ budget_in tally - 1 → r.meter.left < 65535
        gone-less z = omega (arith, gone.spent, x.told.tallied.few)

        -- budget is left
        module _ (n : ¬ (r.meter.left ≡ 0)) {tally' : List ℕ} (t' : tally' ≡ tally_of (suc r.meter.left) (min r.meter.high (length w + 1)))
            (from : m.left ≡ budget_in tally - 1) (high : m.high ≡ high_in tally) where
          left : 0 < r.meter.left
          left = omega arith

          searched : (b : ℕ) → b ≡ or_zero (lowest (grammar_in t) (marked w) (returns_of mid (ground t w) (suc at.depth)) a at.position)
              → Served t w ms tally ws ms tally' us at.depth at.place a at.position r.known b
          searched b e =
              rw t'
              (record {
                chosen = e ∙ ap (λ (S : List ℕ). or_zero (lowest (grammar_in t) (marked w) S a at.position)) pushed-returns;
                tallied = record { long = refl; few = omega (arith, gone-less from) };
                begun = λ z. omega arith;
                stage = Stage.search (omega arith) (stage-search l x.stage).0 (searching-on pushed-searching gone.kept.long gone.kept.holds)
                    (gone.marks left);
                entering = entered (SetsStand (tally_of (suc r.meter.left) (min r.meter.high (length w + 1))) r.known) b
                    (λ k u. omega (arith, u.0)) gone.kept.long (gone_same (suc at.depth));
              })

          far : Far t w ms tally ws → CameSoFar t w ms us r.meter.high
          far f =
              gone.far left (λ b f c. rw pushed-returns (upright-reached t w ws x.upright b f c))
              (rw high (came_same t w ws mid (λ j u. put-below ws at.depth at.place x.spaced.base put j (omega (arith, behind))) (f l)))

          pub search-served : Numbered r.alternative (ServedFar t w ms tally ws ms tally' us at.depth at.place a at.position r.known)
          search-served =
              numbered-map r.alternative
              (λ b e. record { served = searched b e; far = λ f k. rw (t', came-kept w (far f).came) (far f) })
              (gone.chosen left)

        -- none is: the cells answer
        pub out-waiting : Waiting t w us s 0 at a
        out-waiting = serve-bare gone_long gone-bare

        module _ {tally' : List ℕ} (n : r.meter.left ≡ 0) (t' : tally' ≡ tally_of (suc r.meter.left) (min r.meter.high (length w + 1))) where
          pub out-served : {after : List ℕ} {known'' b : ℕ} → known'' ≡ at.depth + 1
              → Found t w us after at.depth at.place a at.position b
              → ServedFar t w ms tally ws ms tally' after at.depth at.place a at.position known'' b
          out-served z f =
              let o : budget_in tally' ≡ 1 = rw (t', n) refl in
              cells-far o (cells-served (rw (t', n) (record { long = refl; few = omega arith })) o z (found_from gone_long gone-bare f))
