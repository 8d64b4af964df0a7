-- `operate::output::output_fits` meets its contract: the query's operands, then a total's. Assumes nothing.
use mathlib.Core.Path.{sym, ◌∙◌}
use Rattle.operate.proofs.OutputLaws.{misfit, fit-lists, fit-total}
use Rattle.operate.proofs.output.output_fits.Goals as goal

pub returns-else-operands_fit : goal.returns-else-operands_fit
returns-else-operands_fit c = λ room. c.if-operands_fit.false ∙ misfit c.args.d c.args.q (sym c.operands_fit.ensures ∙ c.if-operands_fit.false) c.args.output room

pub position_fits-requires : goal.position_fits-requires
position_fits-requires c = (c.requires, sym c.operands_fit.ensures ∙ c.if-operands_fit.true)

pub returns-in-Lists : goal.returns-in-Lists
returns-in-Lists c = fit-lists c.args.d c.args.q (sym c.operands_fit.ensures ∙ c.if-operands_fit.true) _ c.in-Lists.is

pub returns-in-Total : goal.returns-in-Total
returns-in-Total c = let s = c in
    fit-total s.args.d s.args.q (sym c.operands_fit.ensures ∙ c.if-operands_fit.true) _ _ _ c.in-Total.is _ c.position_fits.ensures
