-- `text::put_spaced` meets its contract: a space, then the number. Assumes nothing.
use Rattle.finite.proofs.Writing.{behind}
use Rattle.text.proofs.put_spaced.Goals as goal

pub returns : goal.returns
returns c = behind c.put_byte-z.ensures c.put_decimal.ensures
