-- `change::causes::put_cause` meets its contract. Assumes nothing.
use mathlib.Core.Path.{sym, ap}
use Rattle.state.specs.Changes.{stands}
use Rattle.change.specs.Replacing.{unless_zero}
use Rattle.change.proofs.CauseLaws.{put-far, put-taken, put-unfit, put-twice, put-well, fit-table}
use Rattle.change.proofs.causes.put_cause.Goals as goal
use Rattle.change.proofs.causes.put_cause.Goals.{then-r-ge-ROWS-via-then-r-ge-ROWS, then-r-ge-ROWS-via-else-r-ge-ROWS+then-is_live, then-r-ge-ROWS-via-else-r-ge-ROWS+else-is_live+then-not-operands_fit}

pub returns-then-r-ge-ROWS : goal.returns-then-r-ge-ROWS
returns-then-r-ge-ROWS c cells h = elim c.then-r-ge-ROWS.branch [
  | then-r-ge-ROWS-via-then-r-ge-ROWS w ↦ ap unless_zero (put-far _ _ _ _ w.if-r-ge-ROWS.true)
  | then-r-ge-ROWS-via-else-r-ge-ROWS+then-is_live w ↦ ap unless_zero (put-taken _ _ _ _ (sym (w.if-is_live.ensures cells)))
  | then-r-ge-ROWS-via-else-r-ge-ROWS+else-is_live+then-not-operands_fit w ↦ ap unless_zero (put-unfit _ _ _ _ (sym w.if-not-operands_fit.ensures))
]

pub stands-requires : goal.stands-requires
stands-requires c = fit-table _ c.args.x c.requires.0.tables (sym c.if-not-operands_fit.ensures)

pub returns-then-stands : goal.returns-then-stands
unfolding stands
returns-then-stands c cells h = ap unless_zero (put-twice _ _ _ _ c.if-r-ge-ROWS.false (sym (c.if-is_live.ensures cells)) (sym c.if-not-operands_fit.ensures) (sym (c.if-stands.ensures _ h)))

pub returns : goal.returns
unfolding stands
returns c cells h = ap unless_zero (put-well _ _ _ _ c.if-r-ge-ROWS.false (sym (c.if-is_live.ensures cells)) (sym c.if-not-operands_fit.ensures) (sym (c.if-stands.ensures _ h)))
