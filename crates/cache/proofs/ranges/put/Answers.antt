-- `cache::ranges::put` meets its contract: a ninth range is counted, any other has a place. Assumes nothing.
use native.Mathlib.Omega.{arith}
use mathlib.Core.Path.{refl}
use Rattle.cache.proofs.RangeRecord.{put-kept, put-counted}
use Rattle.cache.proofs.ranges.put.Goals as goal

pub returns-then-s-lt-RANGES : goal.returns-then-s-lt-RANGES
returns-then-s-lt-RANGES c = (refl, λ rs e. put-kept rs c.args.q c.args.s e)

pub returns-else-s-lt-RANGES : goal.returns-else-s-lt-RANGES
returns-else-s-lt-RANGES c = (refl, λ rs e. put-counted rs c.args.q c.args.s e (omega (arith, c.if-s-lt-RANGES.false)))
