-- `opener::reading::is_before` meets its contract: by number, else by issue. Assumes nothing.
use mathlib.Core.Path.{◌∙◌}
use Rattle.opener.specs.Reading.{is_before}
use Rattle.opener.proofs.ValueLaws.{pair-before}
use Rattle.opener.proofs.reading.is_before.Goals as goal

pub returns : goal.returns
unfolding is_before
returns c = c.lt.ensures ∙ pair-before c.args.a.number c.args.a.issue c.args.b.number c.args.b.issue
