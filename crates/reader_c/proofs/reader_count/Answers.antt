-- `reader_c::reader_count` meets its contract: what the pass answers carries the count, and each case hands on the cursor of that answer.
use mathlib.Core.Path.{sym, ap, ◌∙◌}
use Rattle.number.specs.Fetching.{end_of}
use Rattle.reader_c.proofs.reader_count.Goals as goal

pub returns-in-Refused : goal.returns-in-Refused
returns-in-Refused c = ap (λ r. (end_of r).count) (sym c.in-Refused.is) ∙ c.read_grammar-answer.ensures.1.count

pub returns-in-Value : goal.returns-in-Value
returns-in-Value c = ap (λ r. (end_of r).count) (sym c.in-Value.is) ∙ c.read_grammar-answer.ensures.1.count
