-- `report::lines::put_word` meets its contract: a word is short. Assumes nothing.
use native.Mathlib.Omega.{arith}
use mathlib.Core.Path.{refl, ap, ◌∙◌}
use lib.ListN.{length}
use lib.Seq.{take-length}
use Rattle.finite.proofs.Writing.{wrote_as}
use Rattle.report.proofs.Lengths.{word-short}
use Rattle.report.proofs.lines.put_word.Goals as goal

pub put_bytes-requires : goal.put_bytes-requires
put_bytes-requires c = omega (arith, word-short c.args.word, ap length c.word_of-text.ensures)

pub returns : goal.returns
returns c = wrote_as _ _ _ _ _ _ _ refl (take-length _ ∙ c.word_of-text.ensures) c.put_bytes.ensures
