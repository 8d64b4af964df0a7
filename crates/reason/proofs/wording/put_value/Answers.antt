-- `reason::wording::put_value` meets its contract: the parts one behind the other. Assumes nothing.
use native.Mathlib.Omega.{arith}
use Rattle.finite.proofs.Writing.{behind}
use Rattle.model.specs.Sentence.{origin_text, cell_text}
use Rattle.text.proofs.Reach.{spaced-reach}
use Rattle.reason.proofs.WordingLaws.{issue-reach}
use Rattle.reason.proofs.wording.put_value.Goals as goal

pub put_issue-x-requires : goal.put_issue-x-requires
put_issue-x-requires c = omega (arith, spaced-reach _ _ _ _ _ c.put_spaced-y.ensures)

pub put_bytes-w-requires : goal.put_bytes-w-requires
put_bytes-w-requires c = omega (arith, spaced-reach _ _ _ _ _ c.put_spaced-y.ensures, issue-reach _ _ _ _ _ c.put_issue-x.ensures)

pub put_spaced-requires : goal.put_spaced-requires
put_spaced-requires c = omega (arith, spaced-reach _ _ _ _ _ c.put_spaced-y.ensures, issue-reach _ _ _ _ _ c.put_issue-x.ensures)

pub returns : goal.returns
unfolding origin_text cell_text
returns c = behind c.put_bytes-z.ensures
    (behind (behind c.put_spaced-y.ensures c.put_issue-x.ensures) (behind c.put_bytes-w.ensures c.put_spaced.ensures))
