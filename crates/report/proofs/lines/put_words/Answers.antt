-- `report::lines::put_words` meets its contract. The invariant: the words passed are written, in at most 11 bytes each. Assumes nothing.
use native.Mathlib.Omega.{arith}
use Rattle.finite.proofs.Writing.{written_none, written-more, written-end}
use Rattle.report.specs.Report.{numbers_text}
use Rattle.report.proofs.Lengths.{spaced-reach-32}
use Rattle.report.proofs.lines.put_words.Goals as goal

pub loop-word-init : goal.loop-word-init
loop-word-init c = record { room = omega arith; wrote = written_none _ _ _ }

pub loop-word-preserved : goal.loop-word-preserved
loop-word-preserved c =
    let w = rw c.from.ensures at c.put_spaced-z.ensures in
    record {
      room = omega (arith, spaced-reach-32 _ _ _ _ _ (c.type_inv.words c.loop-word.word-index).fits w);
      wrote = written-more _ _ _ _ _ _ _ _ c.loop-word.invariant.wrote w;
    }

pub returns : goal.returns
unfolding numbers_text
returns c = written-end _ _ _ _ _ _ _ (omega arith) (omega arith) c.loop-word.invariant.wrote
