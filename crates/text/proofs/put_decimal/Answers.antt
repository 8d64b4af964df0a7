-- `text::put_decimal` meets its contract. Assumes nothing.
use native.Mathlib.Omega.{arith}
use mathlib.Core.Path.{refl, sym}
use Rattle.finite.proofs.Writing.{behind, wrote_as}
use Rattle.finite.proofs.Decimals.{decimal-one, decimal-more, tenth-short}
use Rattle.text.proofs.put_decimal.Goals as goal

pub returns-then-n-lt10 : goal.returns-then-n-lt10
returns-then-n-lt10 c = wrote_as _ _ _ _ _ _ _ refl (sym (decimal-one c.args.n (omega arith))) c.put_byte.ensures

pub put_byte-requires-then-n-lt1000 : goal.put_byte-requires-then-n-lt1000
put_byte-requires-then-n-lt1000 c = omega (arith, tenth-short c.args.n c.ranges.n.fits)

pub returns-then-n-lt1000 : goal.returns-then-n-lt1000
returns-then-n-lt1000 c =
    wrote_as _ _ _ _ _ _ _ refl (sym (decimal-more c.args.n c.ranges.n.fits (omega arith))) (behind c.put_two-z.ensures c.put_byte-then-n-lt1000.ensures)
