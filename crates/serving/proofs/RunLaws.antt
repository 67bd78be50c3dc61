-- The loop of a reading, turn by turn, whatever chooses, and its ways out.
use mathlib.Core.Path.{◌≡◌, refl, ap, ◌∙◌}
use mathlib.Core.List.{List}
use Prim.Native.Nat.{ℕ, suc, ◌+◌, ◌*◌, ◌≤◌, ◌<◌}
use native.Mathlib.Omega.{arith}
use lib.ListN.{length, set, length-set}
use Rattle.base.proofs.Booleans.{clash}
use Rattle.grammar.specs.inside.Tables.{grammar_in}
use Rattle.derivation.specs.Runs.{marked}
use Rattle.derivation.specs.Machine.{Chooser, Ended, ended, stuck, reading}
use Rattle.derivation.specs.inside.Frames.{frame_words, returns_of}
use Rattle.derivation.proofs.MarkedCells.{length_marked}
use Rattle.cells.specs.inside.Chart.{Lent}
use Rattle.cells.proofs.Spots.{lent-kept}
use Rattle.machine.specs.inside.Space.{ground, opened, Spaced}
use Rattle.machine.specs.inside.Moves.{ToCall, Entered}
use Rattle.machine.specs.inside.Waits.{Waits, called}
use Rattle.machine.specs.inside.Going.{Going}
use Rattle.machine.specs.declared.steps.At.{At}
use Rattle.machine.specs.declared.steps.Space.{Space}
use Rattle.machine.specs.declared.steps.Turn.{Turn}
use Rattle.machine.specs.declared.steps.Turn.TheVariants.{Calls, Stuck as Dead, Ended as Over}
use Rattle.machine.specs.declared.ending.Conclusion.TheVariants.{Accepted, Stuck, Full}
use Rattle.machine.proofs.AlternativeLaws.{named_small}
use Rattle.machine.proofs.MoveLaws.{moves-held, moves-good}
use Rattle.machine.proofs.WaitLaws.{waits-begins, waits-room, waits-position}
use Rattle.machine.proofs.GoingLaws.{going-begins, going-full, going-none, turn-calls, turn-stuck, turn-ended}
use Rattle.serving.specs.inside.Aids.{Told, Tallied, Stage, SetsStand, Upright, MayServe}
use Rattle.serving.specs.inside.Running.{MayGo, Picked, Halted}
use Rattle.serving.proofs.UprightMoves.{upright-begins, upright-again}

-- nonterminal a waits at `at`, `count` entries of the row are written and c is the chooser's state; what there is to choose by stands for the lowest `known`
-- frames, and the stack is open; E and K hold
pub record Turning {C : Type 0} (choose : Chooser C) (end : Ended C) (E K : Type 0) (t w row₀ ws₀ row ms tally ws : List ℕ) (c : C) (count known : ℕ) (at : At)
    (a : ℕ) : Type 0 where
  pub tallied : Tallied tally
  pub stage : Stage t w ms tally ws known
  pub kept : E
  pub knows : K
  pub waits : Waits t w ws (SetsStand tally known) at.depth at.place a at.position
  pub upright : Upright t w ws at.depth at.place a at.position
  pub going : Going choose t w end row count (opened t w ws at.depth at.place) a at.position c
  pub row_kept : length row ≡ length row₀
  pub space-kept : length ws ≡ length ws₀

module _ {C : Type 0} (choose : Chooser C) (t w : List ℕ) where
  -- a reading begins with nonterminal 0 over the end place
  pub turning-begins : (row : List ℕ) {ms tally ws : List ℕ} (c : C) {E K : Type 0} → MayGo t w ms tally ws → E → K
      → Turning choose (reading (grammar_in t) (marked w) choose (length row) c) E K t w row ws row ms tally ws c 0 0
      (record { place = 255; position = 0; depth = 0 }) 0
  unfolding returns_of
  turning-begins row {ms} {tally} {ws} c h x y =
      record {
        tallied = h.told.tallied;
        stage = h.stage;
        kept = x;
        knows = y;
        waits = waits-begins t w ws (SetsStand tally 0);
        upright = upright-begins t w ws;
        going = going-begins choose t w row c;
        row_kept = refl;
        space-kept = refl;
      }

  module _ {end : Ended C} {row₀ tally₀ ws₀ : List ℕ} (h : Told t w tally₀ ws₀) {E K : Type 0} {row ms tally ws : List ℕ} {c : C} {count known : ℕ} {at : At}
      {a : ℕ} (x : Turning choose end E K t w row₀ ws₀ row ms tally ws c count known at a) where
    lent : Lent (grammar_in t).size (length w) ws
    lent = lent-kept x.space-kept h.lent

    pub turning-serves : (s : Space) → Spaced t w s → MayServe t w ms tally ws s known at a
    turning-serves s spaced =
        record {
          told = record { ready = h.ready; tokens = h.tokens; lent = lent; tallied = x.tallied };
          spaced = spaced;
          stage = x.stage;
          waits = x.waits;
          upright = x.upright;
        }

    -- the row is full
    pub out-full : count ≡ length row → Halted end c E t w row₀ ws₀ (record { outcome = Full; known = known }) row ms tally ws
    out-full e =
        record {
          ran = record { stops = going-full choose t w x.going e; within = λ k z. clash (cc); row_kept = x.row_kept; space-kept = x.space-kept };
          tallied = x.tallied;
          stage = x.stage;
          kept = x.kept;
        }

    module _ (room : count ≡ length row → ⊥) {ms' tally' after : List ℕ} {c' : C} {E' : Type 0} {K' : ℕ → ℕ → ℕ → ℕ → Type 0} {known' b : ℕ}
        (y : Picked t w (choose c (opened t w ws at.depth at.place) a at.position) c' E' K' ws ms' tally' after at.depth at.place a at.position
        known' b) where
      pub picked-space : length after ≡ length ws₀
      picked-space = y.entering.kept ∙ x.space-kept

      -- nothing is chosen
      pub out_none : b ≡ 0 → Halted end c' E' t w row₀ ws₀ (record { outcome = Stuck; known = known' }) row ms' tally' after
      out_none z =
          record {
            ran = record {
              stops = ap (λ (c : C). ended stuck c) y.state ∙ going-none choose t w x.going room (y.nothing z);
              within = λ k z. clash (cc);
              row_kept = x.row_kept;
              space-kept = picked-space;
            };
            tallied = y.tallied;
            stage = y.stage;
            kept = y.kept;
          }

      module _ (some : b ≡ 0 → ⊥) where
        pub picked-small : b < 65536
        picked-small = named_small t h.ready a b (y.named some)

        pub picked-room : {base : ℕ} → base ≡ ground t w → base + frame_words * suc at.depth ≤ length after
        picked-room e =
            let z = waits-room t h.ready w lent x.waits b (y.named some).1 in
            omega (arith, y.entering.kept)

        -- what the machine comes to behind the entry v
        module _ {v : ℕ} (stored : v ≡ b) {base : ℕ} (bottom : base ≡ ground t w) {r : Turn}
            (to : Entered t w after base a b (suc at.depth) at.position r) where
          longer : length (set row count v) ≡ length row₀
          longer = length-set row count v ∙ x.row_kept

          pub out-stuck : r ≡ Dead
              → Halted end c' E' t w row₀ ws₀ (record { outcome = Stuck; known = known' }) (set row count v) ms' tally' after
          out-stuck q =
              record {
                ran = record {
                  stops = ap (λ (c : C). ended stuck c) y.state
                      ∙ turn-stuck choose t w x.going room (y.taken some) stored (y.entering.returns some) bottom to q;
                  within = λ k z. clash (cc);
                  row_kept = longer;
                  space-kept = picked-space;
                };
                tallied = y.tallied;
                stage = y.stage;
                kept = y.kept;
              }

          pub out-ended : r ≡ Over
              → Halted end c' E' t w row₀ ws₀ (record { outcome = Accepted (count + 1); known = known' }) (set row count v) ms' tally' after
          out-ended q =
              record {
                ran = record {
                  stops = rw y.state (turn-ended choose t w x.going room (y.taken some) stored (y.entering.returns some) bottom to q);
                  within = λ k z. let y : count + 1 ≡ k = cc in omega (arith, x.going.fits, x.row_kept, longer);
                  row_kept = longer;
                  space-kept = picked-space;
                };
                tallied = y.tallied;
                stage = y.stage;
                kept = y.kept;
              }

          -- a nonterminal waits again
          again-waits : {q d i a' : ℕ} → ToCall (grammar_in t) (marked w) after (ground t w) to.start (suc at.depth) at.position q d i a'
              → Waits t w after (SetsStand tally' known') d q a' i
          again-waits m =
              called m.place m.behind m.faces (moves-held t h.ready w m.moves (y.entering.held to.start to.begins))
              (moves-good (SetsStand tally' known') m.moves (omega (arith, length_marked w, waits-position t h.ready w x.waits))
              (y.entering.good to.start to.begins))

          again-upright : {q d i a' : ℕ} → ToCall (grammar_in t) (marked w) after (ground t w) to.start (suc at.depth) at.position q d i a'
              → Upright t w after d q a' i
          again-upright m = upright-again t h.ready w b to.start (y.entering.returns some) to.begins x.upright m

          pub turning-again : {next : At} {a' : ℕ} → r ≡ Calls next a'
              → Turning choose end E' (K' next.depth next.place a' next.position) t w row₀ ws₀ (set row count v) ms' tally' after c' (count + 1) known'
              next a'
          turning-again {next} {a'} q =
              record {
                tallied = y.tallied;
                stage = y.stage;
                kept = y.kept;
                knows = y.again to.start next.depth next.place a' next.position some to.begins (rw (q, bottom) at to.advanced);
                waits = again-waits (rw (q, bottom) at to.advanced);
                upright = again-upright (rw (q, bottom) at to.advanced);
                going = rw y.state (turn-calls choose t w x.going room (y.taken some) stored (y.entering.returns some) bottom to q);
                row_kept = longer;
                space-kept = picked-space;
              }
