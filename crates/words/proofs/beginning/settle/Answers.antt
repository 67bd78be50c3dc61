-- `words::beginning::settle` meets its contract: a cache that is too short stays as it was, every other is cleared and then gets its lengths and bytes.
use native.Mathlib.Omega.{arith}
use Rattle.std.proofs.lemmas.Grind.{common_steps}
use Rattle.words.proofs.BeginSteps.{short-cache, settled}
use Rattle.words.proofs.beginning.settle.Goals as goal

pub returns-then-cache-lt-MIN_WORDS : goal.returns-then-cache-lt-MIN_WORDS
returns-then-cache-lt-MIN_WORDS c = short-cache _ _ c.if-cache-lt-MIN_WORDS.true

pub returns : goal.returns
returns c =
    settled _ _ c.if-cache-lt-MIN_WORDS.false (grind (arith, common_steps, c.fill.ensures.after (λ y h. h))) c.write_sizes.ensures c.write_bytes.ensures
