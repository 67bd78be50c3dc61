-- The plain reading's choices: what was taken is what the definition's chooser takes, and some alternative serves where the next nonterminal waits.
use mathlib.Core.Path.{◌≡◌, refl}
use mathlib.Core.Option.{some}
use mathlib.Core.List.{List, ◌∷◌}
use Prim.Native.Nat.{ℕ, suc, ◌<◌}
use lib.ListN.{length}
use Rattle.grammar.specs.Grammar.{first}
use Rattle.grammar.specs.inside.Tables.{grammar_in}
use Rattle.derivation.specs.Runs.{marked, Opens, Serves}
use Rattle.derivation.specs.Machine.{plainly, lowest}
use Rattle.derivation.specs.inside.Frames.{returns_of}
use Rattle.derivation.proofs.LowestReading as reading
use Rattle.machine.specs.inside.Space.{ground, opened}
use Rattle.machine.proofs.AlternativeLaws.{some_of, none_of, named-of}
use Rattle.serving.specs.inside.Aids.{budget_in, Served}
use Rattle.serving.specs.inside.Running.{MayGo, Picked, Halted}
use Rattle.serving.specs.declared.running.Stop.{Stop}
use Rattle.plain.specs.inside.Run.{MayRun, plain_end, PlainRan}
use Rattle.plain.proofs.PlainServes.{serves-again}

-- if a search has budget, some alternative serves where nonterminal a waits
abbrev pub SomeServes : List ℕ → List ℕ → List ℕ → List ℕ → ℕ → ℕ → ℕ → ℕ → Type 0
SomeServes t w tally ws d q a i = 1 < budget_in tally → (b : ℕ) × Serves (grammar_in t) (marked w) (opened t w ws d q) a i b

module _ (t w : List ℕ) {ms tally ws ms' tally' after : List ℕ} {d q a i known' r : ℕ} (y : Served t w ms tally ws ms' tally' after d q a i known' r) where
  -- the alternative that was taken serves: from its first place on the rest of the note can be read
  taken-opens : (f : ℕ) → (r ≡ 0 → ⊥) → first (grammar_in t) a r ≡ some f
      → Opens (grammar_in t) (marked w) (f ∷ returns_of after (ground t w) (suc d)) i
  taken-opens f n d =
      let named = some_of (lowest (grammar_in t) (marked w) (opened t w ws _ q) a i) y.chosen n in
      let (g, e, o) = (reading.named (grammar_in t) (marked w) (opened t w ws _ q) a i named).serves in
      let z : g ≡ f = cc in
      rw (y.entering.returns n, ← z) o

  pub picked-lowest : Picked t w (plainly (grammar_in t) (marked w) tt (opened t w ws d q) a i) tt (¬ (budget_in tally' ≡ 0)) (SomeServes t w tally' after) ws
      ms' tally' after d q a i known' r
  picked-lowest =
      record {
        nothing = none_of t w (opened t w ws d q) a i y.chosen;
        taken = some_of (lowest (grammar_in t) (marked w) (opened t w ws d q) a i) y.chosen;
        named = named-of t w (opened t w ws d q) a i y.chosen;
        state = refl;
        kept = y.begun;
        again = λ f d' q' a' i' n e m _. serves-again m (taken-opens f n e);
        tallied = y.tallied;
        stage = y.stage;
        entering = y.entering;
      }

-- ---- the loop
module _ {t w ms tally ws : List ℕ} (h : MayRun t w ms tally ws) where
  pub run-may : MayGo t w ms tally ws
  run-may = record { told = h.told; stage = h.stage }

  pub run-serves : SomeServes t w tally ws 0 255 0 0
  unfolding returns_of
  run-serves = h.serves

pub plain-ran : {t w row ws : List ℕ} {r : Stop} {row' ms' tally' ws' : List ℕ} {E : Type 0}
    → Halted (plain_end t w (length row)) tt E t w row ws r row' ms' tally' ws'
    → PlainRan t w row ws r row' ms' tally' ws'
plain-ran x = record { ran = x.ran; tallied = x.tallied; stage = x.stage }
