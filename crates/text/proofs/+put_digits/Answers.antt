-- `text::put_digits` meets its contract: a number's tenth, then its last digit. Assumes nothing.
use native.Mathlib.Omega.{arith}
use mathlib.Core.Path.{refl, sym}
use Rattle.finite.proofs.Writing.{behind, wrote_as}
use Rattle.finite.proofs.Decimals.{decimal-one, decimal-more, tenth-short}
use Rattle.text.proofs.+put_digits.Goals as goal

pub returns-then-n-lt10 : goal.returns-then-n-lt10
returns-then-n-lt10 t c = wrote_as _ _ _ _ _ _ _ refl (sym (decimal-one c.args.n (omega arith))) c.put_byte.ensures

pub put_byte-requires-2 : goal.put_byte-requires-2
put_byte-requires-2 t c = omega (arith, tenth-short c.args.n c.ranges.n.fits)

pub returns : goal.returns
returns t c =
    wrote_as _ _ _ _ _ _ _ refl (sym (decimal-more c.args.n c.ranges.n.fits (omega arith)))
    (behind c.put_digits-z.ensures c.put_byte-2.ensures)
