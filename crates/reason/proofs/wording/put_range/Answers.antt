-- `reason::wording::put_range` meets its contract: the parts one behind the other. Assumes nothing.
use native.Mathlib.Omega.{arith}
use Rattle.finite.proofs.Writing.{behind}
use Rattle.model.specs.Sentence.{origin_text}
use Rattle.text.proofs.Reach.{spaced-reach}
use Rattle.reason.proofs.wording.put_range.Goals as goal

pub put_bytes-x-requires : goal.put_bytes-x-requires
put_bytes-x-requires c = omega (arith, spaced-reach _ _ _ _ _ c.put_spaced-y.ensures)

pub put_spaced-w-requires : goal.put_spaced-w-requires
put_spaced-w-requires c = omega (arith, spaced-reach _ _ _ _ _ c.put_spaced-y.ensures)

pub put_bytes-u-requires : goal.put_bytes-u-requires
put_bytes-u-requires c = omega (arith, spaced-reach _ _ _ _ _ c.put_spaced-y.ensures, spaced-reach _ _ _ _ _ c.put_spaced-w.ensures)

pub put_spaced-requires : goal.put_spaced-requires
put_spaced-requires c = omega (arith, spaced-reach _ _ _ _ _ c.put_spaced-y.ensures, spaced-reach _ _ _ _ _ c.put_spaced-w.ensures)

pub returns : goal.returns
unfolding origin_text
returns c = behind c.put_bytes-z.ensures (behind c.put_spaced-y.ensures (behind c.put_bytes-x.ensures
    (behind c.put_spaced-w.ensures (behind c.put_bytes-u.ensures c.put_spaced.ensures))))
