-- `words::bytes::byte_at` meets its contract: past the end the default stands.
use lib.ListN.{get_or-eq_default}
use mathlib.Core.Path.{sym}
use Rattle.words.proofs.bytes.byte_at.Goals as goal

pub returns : goal.returns
returns c = sym (get_or-eq_default c.args.bytes.now 0 c.if-i-bytes.false)
