-- `slice::fetch::value_fetch` meets its contract. Assumes nothing.
use Rattle.slice.proofs.fetch.value_fetch.Goals as goal

pub returns : goal.returns
returns c = let s = c in λ i. record { kind = 0; table = c.from.ensures i; column = c.from-2.ensures i; number = s.args.v.number; end = c.from-3.ensures i }
