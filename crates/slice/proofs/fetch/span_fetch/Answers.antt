-- `slice::fetch::span_fetch` meets its contract. Assumes nothing.
use Rattle.slice.proofs.fetch.span_fetch.Goals as goal

pub returns : goal.returns
returns c = let s = c in λ i. record { kind = 1; table = c.from.ensures i; column = c.from-2.ensures i; number = s.args.low; end = s.args.high }
