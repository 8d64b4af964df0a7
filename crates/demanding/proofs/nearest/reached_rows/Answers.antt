-- `demanding::nearest::reached_rows` meets its contract. Assumes nothing.
use Rattle.demanding.proofs.DemandingLaws.{listing_none, listing-more, listing-end}
use Rattle.std.proofs.Common.{rules}
use borrow.Author.Tests.{tests}
use Prim.Native.Nat.{ℕ}
use lib.ListN.{length-replicate}
use native.Mathlib.Omega.{arith}
use Rattle.demanding.proofs.nearest.reached_rows.Goals as goal

pub loop-s-init : goal.loop-s-init
loop-s-init c = (omega arith, listing_none _ _ (length-replicate {A = ℕ} 513 512))

pub loop-s-preserved : goal.loop-s-preserved
loop-s-preserved c = (omega arith, listing-more _ _ _ _ c.loop-s.invariant.1 c.loop-s-test.true _ (search (rules, tests)))

pub returns : goal.returns
returns c = listing-end _ _ _ _ c.loop-s.invariant.0 c.loop-s-test.false c.loop-s.invariant.1
