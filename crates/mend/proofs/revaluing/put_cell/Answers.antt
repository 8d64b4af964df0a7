-- `catalog::revaluing::put_cell` meets its contract: a blank changes nothing, a value comes. Assumes nothing.
use native.Mathlib.Omega.{arith}
use mathlib.Core.Path.{sym, ◌∙◌}
use Rattle.mend.proofs.DirectoryLaws.{seats, comes-room}
use Rattle.mend.proofs.RevalueLaws.{put-blank, put_in}
use Rattle.mend.proofs.revaluing.put_cell.Goals as goal

pub returns-then-is_blank : goal.returns-then-is_blank
returns-then-is_blank c = (omega arith, λ E w x. put-blank _ _ _ _ c.requires.r_bound.0 c.requires.r_bound.1 c.requires.r_bound.3 _ c.cell_at-v.ensures E w _ _ _ (sym c.is_blank.ensures ∙ c.if-is_blank.true) x)

pub put_value-requires : goal.put_value-requires
put_value-requires c = (omega arith, c.requires.r_bound.0, seats _ _ _ _ _ _ c.requires.without.2 (omega arith), c.requires.r_bound.4)

pub returns : goal.returns
returns c = (comes-room _ _ _ _ _ _ _ _ _ (omega arith) c.put_value.ensures, λ E w x. put_in _ _ _ _ c.requires.r_bound.0 c.requires.r_bound.1 c.requires.r_bound.3 _ c.cell_at-v.ensures E w _ _ _ (sym c.is_blank.ensures ∙ c.if-is_blank.false) _ c.key_of.ensures _ _ _ x c.requires.r_bound.4 c.put_value.ensures)
