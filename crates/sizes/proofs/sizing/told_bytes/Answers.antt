-- `sizes::sizing::told_bytes` meets its contract: a reason's length, and 0 with any other answer. Assumes nothing.
use Rattle.sizes.proofs.ReasonSizes.{tells_none, tells-some}
use Rattle.sizes.proofs.sizing.told_bytes.Goals as goal

pub returns-in-Explained : goal.returns-in-Explained
returns-in-Explained c = tells-some _ _ c.in-Explained.is

pub returns-in_default : goal.returns-in_default
returns-in_default c = tells_none c.args.answer c.in_default.not-Explained
