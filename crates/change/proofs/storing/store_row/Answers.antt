-- `change::storing::store_row` meets its contract. Assumes nothing.
use native.Mathlib.Omega.{arith}
use mathlib.Core.Path.{refl}
use Rattle.lawful.proofs.StoredLaws.{row_sized}
use Rattle.change.proofs.StoreLaws.{stored_is, row-stored}
use Rattle.change.proofs.storing.store_row.Goals as goal

pub returns : goal.returns
returns c = let x = c.args.x in
    let z = row_sized x _ c.well_formed.1.1.1.1.0 in
    stored_is _ _ _ _ _ _ _ _ (row-stored _ _ _ _ _ c.copy_from_slice.ensures.after z.numbers refl (omega (arith, c.requires.1.rows))) (row-stored _ _ _ _ _ c.copy_from_slice-2.ensures.after z.issues refl (omega (arith, c.requires.1.issued))) refl
