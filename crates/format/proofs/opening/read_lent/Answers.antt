-- `format::opening::read_lent` meets its contract: buffers, script length, then the commands. Assumes nothing.
use mathlib.Core.Path.{ap}
use Rattle.format.proofs.Lent.{short-cells, short-issues, short-tables, short-marks, long-script, leaves-through}
use Rattle.format.proofs.Verdicts.{opens-refused}
use Rattle.format.proofs.opening.read_lent.Goals as goal
use Rattle.format.proofs.opening.read_lent.Goals.{then-cells-lt-CELLS-via-then-cells-lt-CELLS, then-cells-lt-CELLS-via-else-cells-lt-CELLS+then-issues-lt-CELLS, then-cells-lt-CELLS-via-else-cells-lt-CELLS+else-issues-lt-CELLS+then-tables-lt-ROWS, then-cells-lt-CELLS-via-else-cells-lt-CELLS+else-issues-lt-CELLS+else-tables-lt-ROWS+then-marks-lt-ROWS}

pub returns-then-cells-lt-CELLS : goal.returns-then-cells-lt-CELLS
returns-then-cells-lt-CELLS c = record {
  leaves = elim c.then-cells-lt-CELLS.branch [
    | then-cells-lt-CELLS-via-then-cells-lt-CELLS w ↦ short-cells _ _ _ _ _ w.if-cells-lt-CELLS.true c.refusal.ensures
    | then-cells-lt-CELLS-via-else-cells-lt-CELLS+then-issues-lt-CELLS w ↦ short-issues _ _ _ _ _ w.if-issues-lt-CELLS.true c.refusal.ensures
    | then-cells-lt-CELLS-via-else-cells-lt-CELLS+else-issues-lt-CELLS+then-tables-lt-ROWS w ↦ short-tables _ _ _ _ _ w.if-tables-lt-ROWS.true c.refusal.ensures
    | then-cells-lt-CELLS-via-else-cells-lt-CELLS+else-issues-lt-CELLS+else-tables-lt-ROWS+then-marks-lt-ROWS w ↦ short-marks _ _ _ _ _ w.if-marks-lt-ROWS.true c.refusal.ensures
  ];
  opens = opens-refused _ _ _ _ (ap (λ y. y.verdict) c.refusal.ensures) _ _ _ _;
}

pub returns-then-script-gt-MOST_BYTES : goal.returns-then-script-gt-MOST_BYTES
returns-then-script-gt-MOST_BYTES c = record {
  leaves = long-script _ _ _ _ c.if-cells-lt-CELLS.false c.if-issues-lt-CELLS.false c.if-tables-lt-ROWS.false c.if-marks-lt-ROWS.false c.if-script-gt-MOST_BYTES.true _ c.refusal-then-script-gt-MOST_BYTES.ensures;
  opens = opens-refused _ _ _ _ (ap (λ y. y.verdict) c.refusal-then-script-gt-MOST_BYTES.ensures) _ _ _ _;
}

pub returns : goal.returns
returns c = record {
  leaves = leaves-through _ _ _ _ c.if-cells-lt-CELLS.false c.if-issues-lt-CELLS.false c.if-tables-lt-ROWS.false c.if-marks-lt-ROWS.false _ _ _ _ c.if-script-gt-MOST_BYTES.false c.read_into.ensures.leaves;
  opens = c.read_into.ensures.opens;
}
