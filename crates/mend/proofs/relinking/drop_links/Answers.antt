-- `catalog::relinking::drop_links` meets its contract: the places below c are done. Assumes nothing.
use native.Mathlib.Omega.{arith}
use mathlib.Core.Path.{◌∙◌}
use Rattle.mend.proofs.RelinkLaws.{kept-start, kept-turn, kept-directory, passing-start, passing-turn, passing-end}
use Rattle.mend.proofs.relinking.drop_links.Goals as goal

pub loop-c-init : goal.loop-c-init
loop-c-init c = (omega arith, kept-start _, λ E w d l. passing-start _ _ _ l)

pub drop_link-requires : goal.drop_link-requires
drop_link-requires c = let i = c.loop-c.invariant in
    record { r_bound = (c.requires.r_bound.0, omega arith, c.requires.r_bound.1, c.requires.r_bound.2, i.1.long ∙ c.requires.without.3.long); without = (c.requires.without.0, c.requires.without.1, kept-directory _ _ _ _ i.1 c.requires.without.2, (i.2 c.requires.without.0 c.requires.without.1 c.requires.without.2 c.requires.without.3).rest _ (omega arith) (omega arith)) }

pub loop-c-preserved : goal.loop-c-preserved
loop-c-preserved c = let i = c.loop-c.invariant in (
  omega arith,
  kept-turn _ _ _ _ i.1 c.drop_link.ensures.0,
  λ E w d l. let t = i.2 E w d l in
      passing-turn _ _ _ _ _ _ (omega arith) t c.drop_link.ensures.0 (c.drop_link.ensures.1 E w (kept-directory _ _ _ _ i.1 d) (t.rest _ (omega arith) (omega arith))),
)

pub returns : goal.returns
returns c = let i = c.loop-c.invariant in
    λ E w d l. passing-end _ _ _ _ _ c.loop-c-test.false l.long w.size-without i.1 (i.2 E w d l)
