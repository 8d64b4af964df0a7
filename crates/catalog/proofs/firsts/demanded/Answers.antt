-- `catalog::firsts::demanded` meets its contract, test by test. Assumes nothing.
use native.Mathlib.Omega.{arith}
use Rattle.std.proofs.Common.{rules}
use borrow.Author.Tests.{tests}
use Rattle.catalog.proofs.HitLaws.{first-hit}
use Rattle.catalog.proofs.DemandLaws.{demanded-absent, demanded-elsewhere, demanded-value}
use Rattle.catalog.proofs.firsts.demanded.Goals as goal

pub returns-then-not-is_live : goal.returns-then-not-is_live
returns-then-not-is_live c = demanded-absent _ _ _ _ (search (rules, tests))

pub returns-then-rows-s : goal.returns-then-rows-s
returns-then-rows-s c = demanded-elsewhere _ _ _ _ c.if-rows-s.true

pub overflow_cast-result : goal.overflow_cast-result
overflow_cast-result c = omega (arith, (first-hit _ 0 c.find.result (c.find.ensures _ c.requires.directory)).bound)

pub returns : goal.returns
returns c = demanded-value _ _ _ _ (search (rules, tests)) c.requires.s_bound.1 c.if-rows-s.false _ c.cell_at-v.ensures _
    (c.find.ensures _ c.requires.directory)
