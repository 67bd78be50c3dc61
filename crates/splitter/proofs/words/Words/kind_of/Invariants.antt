-- `splitter::words::Words::kind_of` meets its contract: every listed word that may be the one sought is on what is left of its bucket's chain (`Seek`).
use Rattle.splitter.proofs.IndexLaws.{Seek}
use Rattle.splitter.proofs.words.Words.kind_of.Given as goal

abbrev pub invariant-loop-p : goal.invariant-loop-p
invariant-loop-p l = Seek l.self.list.now l.self.starts l.self.links l.self.count l.word l.p

abbrev pub decreases-loop-p : goal.decreases-loop-p
decreases-loop-p l = l.p
