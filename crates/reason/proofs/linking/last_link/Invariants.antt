-- What the loops of `reason::linking::last_link` keep.
use Prim.Native.Nat.{◌+◌, ◌≤◌, ◌<◌, ◌-◌}
use Rattle.model.specs.Rounds.{level}
use Rattle.state.specs.declared.design.Design.{Design}
use Rattle.state.specs.Cells.{cells_in}
use Rattle.state.specs.Meaning.{database_of, scheme_of}
use Rattle.reason.specs.Links.{LowestLink}
use mathlib.Core.Path.{◌≡◌}
use Rattle.reason.proofs.linking.last_link.Given as goal

abbrev pub invariant-loop-s : goal.invariant-loop-s
invariant-loop-s l = (l.s ≤ 512) ×
    (l.s < 512 → level l.levels l.s ≡ l.n + 2) ×
    ((d : Design) → l.constraint ≡ d.constraint → l.initial.best.constraint ≡ d.constraints →
    LowestLink (scheme_of d) (database_of (cells_in l.rows.cells.now l.rows.issues.now) l.rows.tables.now) l.levels l.n l.r l.s l.best.constraint l.best.row)

abbrev pub decreases-loop-s : goal.decreases-loop-s
decreases-loop-s l = 512 - l.s
