-- `reason::explaining::put_chain` meets its contract: the levels listed, the links found and written. Assumes nothing.
use native.Mathlib.Omega.{arith}
use Rattle.catalog.proofs.MakingLaws.{size-lent}
use Rattle.reason.proofs.LinkLaws.{below-bound, ranked-below, traceable}
use Rattle.reason.proofs.Composing.{root_none, links-none}
use Rattle.reason.proofs.explaining.put_chain.Goals as goal

pub returns-then-n-eq0 : goal.returns-then-n-eq0
returns-then-n-eq0 c = let o = c.if-n-eq0.true in (root_none _ _ _ _ _ o, omega arith, links-none _ _ _ _ _ _ _ o)

pub list_levels-requires : goal.list_levels-requires
list_levels-requires c = λ s h. omega (arith, below-bound _ _ _ c.levels_below-low.ensures s h, c.requires.in_range.2)

pub find_links-requires : goal.find_links-requires
find_links-requires c = record { in_range = (c.requires.in_range.0, c.requires.in_range.1, c.requires.in_range.2, c.requires.in_range.3); ranked = (ranked-below _ _ _ c.levels_below-low.ensures _ _ _ (omega (arith, c.requires.in_range.2)) c.list_levels.ensures, c.requires.graded.0, c.requires.graded.1) }

pub put_links-requires : goal.put_links-requires
put_links-requires c = (c.requires.in_range.2, c.requires.in_range.4, (_, _, _, traceable _ _ _ _ _ _ _ c.requires.in_range.0 (size-lent _ _) c.requires.graded.0 c.requires.graded.1 c.find_links.ensures))

pub returns : goal.returns
returns c = c.put_links.ensures _ _ _ (traceable _ _ _ _ _ _ _ c.requires.in_range.0 (size-lent _ _) c.requires.graded.0 c.requires.graded.1 c.find_links.ensures)
