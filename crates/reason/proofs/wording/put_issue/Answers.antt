-- `reason::wording::put_issue` meets its contract. Assumes nothing.
use mathlib.Core.Path.{refl, sym}
use Rattle.finite.proofs.Writing.{behind, wrote_as, wrote_none}
use Rattle.reason.proofs.WordingLaws.{issue-none, issue-some}
use Rattle.reason.proofs.wording.put_issue.Goals as goal

pub returns-then-issue-eq0 : goal.returns-then-issue-eq0
returns-then-issue-eq0 c = wrote_as _ _ _ _ _ _ _ refl (sym (issue-none _ c.if-issue-eq0.true)) (wrote_none _ _)

pub returns : goal.returns
returns c = wrote_as _ _ _ _ _ _ _ refl (sym (issue-some _ c.if-issue-eq0.false)) (behind c.put_bytes-z.ensures c.put_spaced.ensures)
