-- `even::reaching::own_row` meets its contract. Assumes nothing.
use Rattle.even.proofs.LinkLaws.{own_row}
use Rattle.even.proofs.reaching.own_row.Goals as goal

pub returns : goal.returns
returns c = own_row _ c.requires
