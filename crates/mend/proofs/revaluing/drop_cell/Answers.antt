-- `catalog::revaluing::drop_cell` meets its contract: a blank changes nothing, a value goes. Assumes nothing.
use native.Mathlib.Omega.{arith}
use mathlib.Core.Path.{sym, ◌∙◌}
use Rattle.mend.proofs.DirectoryLaws.{seats}
use Rattle.mend.proofs.RevalueLaws.{drop-blank, drop-stands, drop-out}
use Rattle.mend.proofs.revaluing.drop_cell.Goals as goal

pub returns-then-is_blank : goal.returns-then-is_blank
returns-then-is_blank c = λ E w x. drop-blank _ _ _ _ c.requires.r_bound.0 c.requires.r_bound.1 c.requires.r_bound.3 _ c.cell_at-v.ensures E w _ _ _ (sym c.is_blank.ensures ∙ c.if-is_blank.true) x

pub drop_value-requires : goal.drop_value-requires
drop_value-requires c = (omega arith, c.requires.r_bound.0, seats _ _ _ _ _ _ c.requires.without.2 (omega arith), drop-stands _ _ _ _ c.requires.r_bound.0 c.requires.r_bound.1 c.requires.r_bound.3 _ c.cell_at-v.ensures c.requires.without.0 c.requires.without.1 _ _ _ (sym c.is_blank.ensures ∙ c.if-is_blank.false) _ c.key_of.ensures c.requires.without.2)

pub returns : goal.returns
returns c = λ E w x. drop-out _ _ _ _ c.requires.r_bound.0 c.requires.r_bound.1 c.requires.r_bound.3 _ c.cell_at-v.ensures E w _ _ _ (sym c.is_blank.ensures ∙ c.if-is_blank.false) _ c.key_of.ensures _ _ _ _ c.note_types.ensures.issues c.requires.links x c.drop_value.ensures
