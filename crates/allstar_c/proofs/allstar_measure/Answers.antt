-- `allstar_c::allstar_measure` meets its contract: the number, the place and the sizes stored are those of the measure that `measure` answers.
use Rattle.allstar_c.proofs.Answers.{told-sizes, told-measure}
use Rattle.allstar_c.proofs.allstar_measure.Goals as goal

pub returns : goal.returns
returns c =
    let sizes = told-sizes c.measure-measure.result c.unwrap_or-sizes.ensures in
    told-measure c.measure-measure.result c.number.ensures c.place.ensures sizes.0 sizes.1 sizes.2 c.measure-measure.ensures
