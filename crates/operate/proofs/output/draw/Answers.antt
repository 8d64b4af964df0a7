-- `operate::output::draw` meets its contract: the lists, or the total. Assumes nothing.
use Rattle.state.proofs.Arrays.{sized}
use Rattle.query.proofs.Answering.{lent-celled}
use Rattle.operate.proofs.OutputLaws.{totals, listed, lists-drawn, total-drawn}
use Rattle.operate.proofs.output.draw.Goals as goal

pub list_fitting-requires : goal.list_fitting-requires
list_fitting-requires c = let s = c in
    let p = s.requires.in_range in
    (p.0, p.1, listed s.args.d s.args.q _ _ c.in-Lists.is s.requires.d_value.1, p.2, p.3, p.4)

pub total_fitting-requires : goal.total_fitting-requires
total_fitting-requires c = let s = c in
    let p = s.requires.in_range in
    let t = totals s.args.d s.args.q s.requires.d_value.0 (sized s.args.d _ s.well_formed.0) _ _ _ _ c.in-Total.is s.requires.d_value.1 in
    (p.0, p.1, t.operands, p.4, t.position, t.column, (_, p.3, lent-celled _ _ p.2))

pub returns-in-Lists : goal.returns-in-Lists
returns-in-Lists c = lists-drawn _ _ _ _ _ _ c.in-Lists.is c.list_fitting.ensures

pub returns-in-Total : goal.returns-in-Total
returns-in-Total c = total-drawn _ _ _ _ _ _ _ _ _ _ _ c.in-Total.is (c.total_fitting.ensures _ c.requires.in_range.3 (lent-celled _ _ c.requires.in_range.2))
