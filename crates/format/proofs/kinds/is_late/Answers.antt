-- `format::kinds::is_late` meets its contract, by the definition at each byte. Assumes nothing.
use native.Mathlib.Omega.{arith}
use mathlib.Core.Path.{sym, ap, ◌∙◌}
use Rattle.format.specs.Kinds.{is_late}
use Rattle.format.proofs.KindLaws.{late-last}
use Rattle.format.proofs.kinds.is_late.Goals as goal

pub returns-in-1 : goal.returns-in-1
unfolding is_late
returns-in-1 c = c.after_tables.ensures ∙ sym (ap (is_late c.args.d c.args.rows) c.in-1.is)

pub returns-in-2 : goal.returns-in-2
unfolding is_late
returns-in-2 c = c.after_constraints.ensures ∙ sym (ap (is_late c.args.d c.args.rows) c.in-2.is)

pub returns-in-3 : goal.returns-in-3
unfolding is_late
returns-in-3 c = sym (ap (is_late c.args.d c.args.rows) c.in-3.is)

pub returns-in_default : goal.returns-in_default
returns-in_default c = late-last _ (omega arith) (omega arith) (omega arith) _ _
