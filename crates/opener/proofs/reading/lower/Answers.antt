-- `opener::reading::lower` meets its contract, test by test. Assumes nothing.
use mathlib.Core.Path.{sym, ◌∙◌}
use Rattle.opener.proofs.ValueLaws.{reads-other, reads-only, reads-new, reads-old}
use Rattle.opener.proofs.reading.lower.Goals as goal

pub returns-in_default : goal.returns-in_default
returns-in_default c x y p q = reads-other _ _ _ _ p q c.in_default.is

pub returns-in_default-b : goal.returns-in_default-b
returns-in_default-b c x y p q = reads-only c.args.a c.args.b _ _ p q _ c.in-Some.is c.in_default-b.is

pub returns-then-is_before : goal.returns-then-is_before
returns-then-is_before c x y p q = reads-new c.args.a c.args.b _ _ p q _ c.in-Some.is _ c.in-Some-b.is (sym c.is_before.ensures ∙ c.if-is_before.true)

pub returns : goal.returns
returns c x y p q = reads-old c.args.a c.args.b _ _ p q _ c.in-Some.is _ c.in-Some-b.is (sym c.is_before.ensures ∙ c.if-is_before.false)
