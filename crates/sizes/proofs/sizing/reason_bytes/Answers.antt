-- `sizes::sizing::reason_bytes` meets its contract: what the answer tells, with room for any reason. Assumes nothing.
use Prim.Native.Nat.{ℕ}
use lib.ListN.{length-replicate}
use Rattle.sizes.proofs.ReasonSizes.{taken-text}
use Rattle.sizes.proofs.sizing.reason_bytes.Goals as goal

pub returns : goal.returns
returns c = taken-text _ c.requires.0 _ _ (length-replicate {A = ℕ} 16384 0) _ c.reason_lawful-answer.ensures.0 _ c.told_bytes.ensures
