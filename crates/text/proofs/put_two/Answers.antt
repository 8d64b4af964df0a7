-- `text::put_two` meets its contract: the tenth, then the last digit. Assumes nothing.
use Prim.Native.Nat.{ℕ, ◌/◌, ◌%◌}
use native.Mathlib.Omega.{arith}
use mathlib.Core.Path.{refl, sym, ap, ◌∙◌}
use mathlib.Core.List.{List, [], ◌∷◌, ◌++◌}
use Rattle.finite.specs.Decimal.{digit}
use Rattle.finite.proofs.Writing.{behind, wrote_as}
use Rattle.finite.proofs.Decimals.{decimal-one, decimal-more}
use Rattle.text.proofs.put_two.Goals as goal

pub returns : goal.returns
returns c =
    let n = c.args.n in
    wrote_as _ _ _ _ _ _ _ refl
    (sym (decimal-more n c.ranges.n.fits c.requires.0 ∙ ap (λ (xs : List ℕ). xs ++ (digit (n % 10) ∷ [])) (decimal-one (n / 10) (omega (arith, c.requires.1)))))
    (behind c.put_byte-z.ensures c.put_byte.ensures)
