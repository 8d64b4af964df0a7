-- `format::opening::refusal` meets its contract. Assumes nothing.
use Rattle.format.proofs.opening.refusal.Goals as goal

pub returns : goal.returns
returns c = cc
