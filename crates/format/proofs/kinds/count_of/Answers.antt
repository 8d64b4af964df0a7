-- `format::kinds::count_of` meets its contract, by the definition at each byte. Assumes nothing.
use native.Mathlib.Omega.{arith}
use mathlib.Core.Path.{sym, ap}
use Rattle.format.specs.Kinds.{count_of}
use Rattle.format.proofs.KindLaws.{count-last}
use Rattle.format.proofs.kinds.count_of.Goals as goal

pub returns-in-1 : goal.returns-in-1
unfolding count_of
returns-in-1 c = sym (ap (count_of c.args.d c.args.rows) c.in-1.is)

pub returns-in-2 : goal.returns-in-2
unfolding count_of
returns-in-2 c = sym (ap (count_of c.args.d c.args.rows) c.in-2.is)

pub returns-in-3 : goal.returns-in-3
unfolding count_of
returns-in-3 c = sym (ap (count_of c.args.d c.args.rows) c.in-3.is)

pub returns-in_default : goal.returns-in_default
returns-in_default c = count-last _ (omega arith) (omega arith) (omega arith) _ _
