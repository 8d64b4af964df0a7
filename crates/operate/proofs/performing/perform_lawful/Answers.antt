-- `operate::performing::perform_lawful` meets its contract: what the operation's own function gives. Assumes nothing.
use mathlib.Core.Path.{refl}
use Rattle.model.specs.Effects.{reply}
use Rattle.state.proofs.HeldWords.{words-sized}
use Rattle.operate.proofs.ReadyLaws.{ready}
use Rattle.operate.proofs.Inspected.{inspecting}
use Rattle.operate.proofs.Performed.{refer-performs, drop-performs, name-performs, range-performs, drop-range-performs, query-performs, ask-performs, in-case}
use Rattle.operate.proofs.performing.perform_lawful.Goals as goal

pub refer_lawful-requires : goal.refer_lawful-requires
refer_lawful-requires c = let b = c in record { whole = b.requires.2; by_index = (_, _, (ready _ _ _ _ _ _ _ b.requires.0 b.requires.1)) }

pub drop_lawful-requires : goal.drop_lawful-requires
drop_lawful-requires c = let b = c in record { whole = b.requires.2; by_index = (_, _, (ready _ _ _ _ _ _ _ b.requires.0 b.requires.1)) }

pub probe_lawful-requires : goal.probe_lawful-requires
probe_lawful-requires c = let b = c in (_, _, b.requires.0, b.requires.1.index)

pub refer_range_lawful-requires : goal.refer_range_lawful-requires
refer_range_lawful-requires c = let b = c in record { whole = b.requires.2; by_index = (_, _, (ready _ _ _ _ _ _ _ b.requires.0 b.requires.1)) }

pub drop_range_lawful-requires : goal.drop_range_lawful-requires
drop_range_lawful-requires c = let b = c in record { whole = b.requires.2; by_index = (_, _, (ready _ _ _ _ _ _ _ b.requires.0 b.requires.1)) }

pub returns-in-Refer : goal.returns-in-Refer
returns-in-Refer c = let b = c in
    (in-case _ _ _ _ _ _ _ _ _ _ _ c.in-Refer.is (refer-performs _ b.requires.0 _ _ _ _ _ (c.refer_lawful.ensures.1 _ _ (ready _ _ _ _ _ _ _ b.requires.0 b.requires.1))), c.refer_lawful.ensures.0)

pub returns-in-Drop : goal.returns-in-Drop
returns-in-Drop c = let b = c in
    (in-case _ _ _ _ _ _ _ _ _ _ _ c.in-Drop.is (drop-performs _ b.requires.0 _ _ _ _ _ (c.drop_lawful.ensures.1 _ _ (ready _ _ _ _ _ _ _ b.requires.0 b.requires.1))), c.drop_lawful.ensures.0)

pub returns-in-Probe : goal.returns-in-Probe
unfolding reply
returns-in-Probe c = let b = c in
    (in-case _ _ _ _ _ _ _ _ _ _ _ c.in-Probe.is (ask-performs _ b.requires.0 _ _ (words-sized b.args.held.now) _ refl _ (c.probe_lawful.ensures _ _ b.requires.0 b.requires.1.index)), b.requires.2)

pub returns-in-Query : goal.returns-in-Query
returns-in-Query c = let b = c in
    (in-case _ _ _ _ _ _ _ _ _ _ _ c.in-Query.is (query-performs _ b.requires.0 _ _ _ _ _ _ _ c.query_lawful.ensures.0), c.query_lawful.ensures.1)

pub returns-in-Evenness : goal.returns-in-Evenness
returns-in-Evenness c = (c.inspect_lawful.ensures _ (inspecting _ c.in-Evenness.is), c.requires.2)

pub returns-in-Total : goal.returns-in-Total
returns-in-Total c = let b = c in
    (in-case _ _ _ _ _ _ _ _ _ _ _ c.in-Total.is (query-performs _ b.requires.0 _ _ _ _ _ _ _ c.query_lawful-in-Total.ensures.0), c.query_lawful-in-Total.ensures.1)

pub returns-in-Name : goal.returns-in-Name
returns-in-Name c = let b = c in
    (in-case _ _ _ _ _ _ _ _ _ _ _ c.in-Name.is (name-performs _ b.requires.0 _ _ _ _ _ (c.name_lawful.ensures.0 _ _ _ _ b.requires.0)), c.name_lawful.ensures.1)

pub returns-in-ReferRange : goal.returns-in-ReferRange
returns-in-ReferRange c = let b = c in
    (in-case _ _ _ _ _ _ _ _ _ _ _ c.in-ReferRange.is (range-performs _ b.requires.0 _ _ _ _ _ (c.refer_range_lawful.ensures.1 _ _ (ready _ _ _ _ _ _ _ b.requires.0 b.requires.1))), c.refer_range_lawful.ensures.0)

pub returns-in-DropRange : goal.returns-in-DropRange
returns-in-DropRange c = let b = c in
    (in-case _ _ _ _ _ _ _ _ _ _ _ c.in-DropRange.is (drop-range-performs _ b.requires.0 _ _ _ _ _ (c.drop_range_lawful.ensures.1 _ _ (ready _ _ _ _ _ _ _ b.requires.0 b.requires.1))), c.drop_range_lawful.ensures.0)
