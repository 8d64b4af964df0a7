-- `report::lines::put_shown` meets its contract: the word, the numbers, and the place of a refusal. Assumes nothing.
use native.Mathlib.Omega.{arith}
use mathlib.Core.Path.{refl}
use lib.Seq.{length-take-le}
use Rattle.finite.proofs.Writing.{behind, wrote_as}
use Rattle.report.proofs.Answers.{shown-sized, first-numbers, shown-plain, shown-refusal}
use Rattle.report.proofs.Lengths.{word-reach, numbers-reach}
use Rattle.report.proofs.lines.put_shown.Goals as goal

pub put_numbers-y-requires : goal.put_numbers-y-requires
put_numbers-y-requires c = omega (arith, length-take-le c.args.shown.count c.args.shown.numbers (omega (arith, c.requires.0, shown-sized c.args.shown _ c.well_formed.1.1.0)), word-reach _ _ _ _ c.args.shown.word c.put_word-z.ensures)

pub returns-then-shown-ne7 : goal.returns-then-shown-ne7
returns-then-shown-ne7 c = wrote_as _ _ _ _ _ _ _ refl (shown-plain c.args.shown c.args.place c.if-shown-ne7.true)
    (behind c.put_word-z.ensures (rw (first-numbers c.args.shown.count c.args.shown.numbers (omega (arith, c.requires.0, shown-sized c.args.shown _ c.well_formed.1.1.0))) at c.put_numbers-y.ensures))

pub put_spaced-requires : goal.put_spaced-requires
put_spaced-requires c = omega (
  arith,
  c.requires.0,
  c.requires.1,
  word-reach _ _ _ _ c.args.shown.word c.put_word-z.ensures,
  numbers-reach _ _ _ _ c.args.shown.count c.args.shown.numbers (rw (first-numbers c.args.shown.count c.args.shown.numbers (omega (arith, c.requires.0, shown-sized c.args.shown _ c.well_formed.1.1.0))) at c.put_numbers-y.ensures),
)

pub returns : goal.returns
returns c = wrote_as _ _ _ _ _ _ _ refl (shown-refusal c.args.shown c.args.place c.if-shown-ne7.false)
    (behind (behind c.put_word-z.ensures (rw (first-numbers c.args.shown.count c.args.shown.numbers (omega (arith, c.requires.0, shown-sized c.args.shown _ c.well_formed.1.1.0))) at c.put_numbers-y.ensures)) c.put_spaced.ensures)
