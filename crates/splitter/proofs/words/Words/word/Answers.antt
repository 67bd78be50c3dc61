-- `splitter::words::Words::word` meets its contract: a word ends before the blank in front of the next.
use mathlib.Core.Path.{◌≡◌, refl}
use Prim.Native.Nat.{suc, ◌-◌}
use native.Mathlib.Numerals.{add-one}
use native.Mathlib.Omega.{arith}
use lib.ListN.{get_or}
use Rattle.splitter.specs.inside.Index.{word_at}
use Rattle.splitter.proofs.words.Words.word.Goals as goal

pub returns : goal.returns
unfolding word_at
returns c =
    let e : get_or c.args.self.now.starts (suc c.args.k) 0 - 1 - get_or c.args.self.now.starts c.args.k 0
    ≡ get_or c.args.self.now.starts (suc c.args.k) 0 - suc (get_or c.args.self.now.starts c.args.k 0) = omega arith in
    rw (add-one c.args.k, e) refl
