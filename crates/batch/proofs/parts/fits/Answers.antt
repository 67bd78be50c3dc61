-- `batch::parts::fits` meets its contract: each test is one of the definition's, in its order.
use native.Mathlib.Omega.{arith}
use Rattle.batch.proofs.PartLaws.{no_note, many-notes, other-total, other-answers, by_row}
use Rattle.batch.proofs.parts.fits.Goals as goal

pub returns-then-n-eq0 : goal.returns-then-n-eq0
returns-then-n-eq0 c = no_note _ _ _ _ (omega arith)

pub returns-then-n-gt-MAX_NOTES : goal.returns-then-n-gt-MAX_NOTES
returns-then-n-gt-MAX_NOTES c = many-notes _ _ _ _ (omega arith) (omega arith)

pub returns-then-all_tokens-tokens : goal.returns-then-all_tokens-tokens
returns-then-all_tokens-tokens c = other-total _ _ _ _ (omega arith) (omega arith) (λ e. omega (arith, e, c.all_tokens.ensures))

pub returns-then-answers-n : goal.returns-then-answers-n
returns-then-answers-n c = other-answers _ _ _ _ (omega arith) (omega arith) (omega (arith, c.all_tokens.ensures)) (λ e. omega (arith, e))

pub returns : goal.returns
returns c = by_row _ _ _ _ (omega arith) (omega arith) (omega (arith, c.all_tokens.ensures)) (omega arith)
