use native.Mathlib.Omega.{arith}
use mathlib.Core.Path.{refl, ◌∙◌}
use Rattle.model.specs.Scheme.{same_column}
use Rattle.state.specs.Design.{no_constraint}
use Rattle.state.specs.Lawful.{same_constraint}
use Rattle.state.proofs.Arrays.{sized}
use Rattle.lawful.proofs.Fronts.{any-front}
use Rattle.lawful.proofs.constraints.constraint_before.Goals as goal

pub returns : goal.returns
unfolding same_constraint same_column
returns c = let d = c.args.d in
    c.contains.ensures.value ∙
    any-front no_constraint _ (λ x. same_constraint x c.args.c) (λ x. refl) c.args.n d.constraint (omega (arith, (sized d _ c.well_formed.0).constraint))
