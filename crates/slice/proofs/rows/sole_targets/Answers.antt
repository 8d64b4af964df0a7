-- `slice::rows::sole_targets` meets its contract. Assumes nothing.
use Rattle.std.proofs.Common.{rules}
use Rattle.state.specs.Design.{no_constraint}
use Rattle.state.specs.Meaning.{column_of, scheme_of}
use Rattle.state.specs.declared.design.Constraint.{Constraint}
use mathlib.Core.Bool.{false}
use Rattle.slice.proofs.FoundLaws.{map-tab}
use Rattle.slice.proofs.rows.sole_targets.Goals as goal

pub returns : goal.returns
returns c = let d = c.args.d in
    map-tab (λ (k : Constraint). (scheme_of d).unique (column_of k.target)) no_constraint false 16 _ d.constraint _ c.map.ensures.items (λ x b q k. search rules)
