-- `reason::wording::put_link` meets its contract: the parts one behind the other. Assumes nothing.
use native.Mathlib.Omega.{arith}
use Rattle.finite.proofs.Writing.{behind}
use Rattle.model.specs.Sentence.{link_text}
use Rattle.text.proofs.Reach.{spaced-reach-by}
use Rattle.reason.proofs.wording.put_link.Goals as goal

pub put_bytes-x-requires : goal.put_bytes-x-requires
put_bytes-x-requires c = omega (arith, spaced-reach-by _ _ _ _ 1 _ (omega arith) c.put_spaced-y.ensures)

pub put_spaced-requires : goal.put_spaced-requires
put_spaced-requires c = omega (arith, spaced-reach-by _ _ _ _ 1 _ (omega arith) c.put_spaced-y.ensures)

pub returns : goal.returns
unfolding link_text
returns c = behind c.put_bytes-z.ensures (behind c.put_spaced-y.ensures (behind c.put_bytes-x.ensures c.put_spaced.ensures))
