-- `wurzsige::opening::short` meets its contract. Assumes nothing.
use mathlib.Core.Path.{ap}
use Rattle.state.specs.declared.design.Design.{Design}
use Rattle.format.specs.declared.verdict.Verdict.TheVariants.{Refused}
use Rattle.wurzsige.proofs.opening.short.Goals as goal

pub returns : goal.returns
returns c = ap (λ (d : Design). record { verdict = Refused 7 0; design = d; rows = 0 }) c.empty-design.ensures
