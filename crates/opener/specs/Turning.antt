-- A design with its constraints turned round, as a value. Assumes nothing.
use Rattle.finite.specs.Finite.{tab}
use Rattle.state.specs.declared.design.Constraint.{Constraint}
use Rattle.state.specs.declared.design.Design.{Design}
use Rattle.state.specs.Design.{constraint_at}

abbrev pub turned_constraint : Constraint → Constraint
turned_constraint j = record { source = j.target; target = j.source }

unfoldable pub turned_design : Design → Design
turned_design d =
    record {
      tables = d.tables;
      table = d.table;
      constraints = d.constraints;
      constraint = tab 16 (λ i. turned_constraint (constraint_at d i));
      fillings = d.fillings;
      filling = d.filling;
    }
