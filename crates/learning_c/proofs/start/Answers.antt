-- `learning_c::start` meets its contract: each way out, a cache too short, a decision that is known or one that is not, is one case of `start_in`.
use native.Mathlib.Omega.{arith}
use Rattle.learning_c.proofs.QuestionLaws.{start-short, start-known, start-unknown}
use Rattle.learning_c.proofs.start.Goals as goal

pub returns-then-cache-lt-MIN_WORDS : goal.returns-then-cache-lt-MIN_WORDS
returns-then-cache-lt-MIN_WORDS c = start-short c.args.tables.now _ _ (omega arith)

pub returns-then-a-nonterminals : goal.returns-then-a-nonterminals
returns-then-a-nonterminals c = start-known _ _ _ (omega arith) (omega (arith, c.nonterminals.ensures)) c.ask_start.ensures

pub returns : goal.returns
returns c = start-unknown c.args.tables.now _ _ (omega arith) (omega (arith, c.nonterminals.ensures))
