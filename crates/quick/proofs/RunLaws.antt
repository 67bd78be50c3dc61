-- The quick reading's loop: what it begins with, and that it stops as the whole reading under the quick chooser ends.
use mathlib.Core.Path.{◌≡◌, refl}
use mathlib.Core.List.{List}
use Prim.Native.Nat.{ℕ, ◌≤◌}
use native.Mathlib.Omega.{arith}
use lib.ListN.{length, replicate}
use Rattle.words.specs.Layout.{min_words}
use Rattle.first_follow.specs.inside.Words.{mask_words}
use Rattle.gate.specs.inside.Passing.{Admitted}
use Rattle.serving.specs.inside.Aids.{tally_of, nothing, Far, Unbegun}
use Rattle.serving.specs.inside.Running.{MayGo, Halted}
use Rattle.serving.specs.declared.running.Stop.{Stop}
use Rattle.quick.specs.inside.Run.{quick_end, QuickRan}

-- whatever a search may spend, none has begun
pub unbegun : {tally : List ℕ} {most : ℕ} → tally ≡ tally_of 0 most → Unbegun (replicate mask_words 0) tally
unbegun e = rw e (record { blank = refl; long = refl; nothing = refl })

module _ {t w ms tally ws : List ℕ} (h : Admitted t w (length ws)) (u : Unbegun ms tally) where
  -- there is nothing to choose by
  pub run-may : MayGo t w ms tally ws
  run-may =
      record {
        told = record {
          ready = h.ready;
          tokens = h.tokens;
          lent = record { short = h.short; room = h.room };
          tallied = record { long = u.long; few = omega (arith, u.nothing) };
        };
        stage = nothing u.nothing u.blank refl;
      }

  pub run-far : Far t w ms tally ws
  run-far n = absurd (omega (arith, u.nothing))

pub quick-ran : {t w row ws c : List ℕ} {r : Stop} {row' ms' tally' ws' c' : List ℕ}
    → Halted (quick_end t w (length row) c) c' (Far t w ms' tally' ws' × (min_words ≤ length c')) t w row ws r row' ms' tally' ws'
    → QuickRan t w row ws c r row' ms' tally' ws' c'
quick-ran x = record { ran = x.ran; tallied = x.tallied; stage = x.stage; far = x.kept.0 }
