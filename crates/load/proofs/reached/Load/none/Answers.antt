-- `load::reached::Load::none` meets its contract: no row has a level. Assumes nothing.
use Prim.Native.Nat.{ℕ}
use lib.ListN.{length-replicate}
use Rattle.load.proofs.StartLaws.{none-added}
use Rattle.load.proofs.reached.Load.none.Goals as goal

pub invariant_of-result : goal.invariant_of-result
invariant_of-result c = record { long = length-replicate {A = ℕ} 512 0; listed = none-added _ (length-replicate {A = ℕ} 512 0) }
