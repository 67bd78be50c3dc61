-- `allstar_c::allstar_batch` meets its contract: number and place are those that `batch` answers, and answers, row and cache those that it leaves.
use Rattle.allstar_c.proofs.Answers.{told-batch}
use Rattle.allstar_c.proofs.allstar_batch.Goals as goal

pub returns : goal.returns
returns c = told-batch c.batch-outcome.result _ _ _ _ _ c.number.ensures c.place.ensures c.batch-outcome.ensures
