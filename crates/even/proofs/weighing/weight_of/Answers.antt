-- `even::weighing::weight_of` meets its contract. Assumes nothing.
use Rattle.even.proofs.KnotCode.{weighed, bit-fits}
use Rattle.even.proofs.weighing.weight_of.Goals as goal

pub overflow_sub-result : goal.overflow_sub-result
overflow_sub-result c = bit-fits _ c.requires

pub returns : goal.returns
returns c = weighed _ c.requires
