-- `change::causes::remove_cause` meets its contract. Assumes nothing.
use mathlib.Core.Path.{sym, ap}
use Rattle.change.specs.Replacing.{unless_zero}
use Rattle.change.proofs.CauseLaws.{remove-far, remove-free, remove-well}
use Rattle.change.proofs.causes.remove_cause.Goals as goal
use Rattle.change.proofs.causes.remove_cause.Goals.{then-r-ge-ROWS-via-then-r-ge-ROWS, then-r-ge-ROWS-via-else-r-ge-ROWS+then-not-is_live}

pub returns-then-r-ge-ROWS : goal.returns-then-r-ge-ROWS
returns-then-r-ge-ROWS c cells = elim c.then-r-ge-ROWS.branch [
  | then-r-ge-ROWS-via-then-r-ge-ROWS w ↦ ap unless_zero (remove-far _ _ _ w.if-r-ge-ROWS.true)
  | then-r-ge-ROWS-via-else-r-ge-ROWS+then-not-is_live w ↦ ap unless_zero (remove-free _ _ _ (sym (w.if-not-is_live.ensures cells)))
]

pub returns : goal.returns
returns c cells = ap unless_zero (remove-well _ _ _ (sym (c.if-not-is_live.ensures cells)))
