-- SumLaws, Hops, Chains, CapLaws: lists of rows, counted and pruned by weights, over any tests. Counts: how many lists there can be. WeightLaws, PartLaws, Weighing: the tables that
-- elimination leaves. WorkingLaws: the arrays they stand in. Stages, EntryLaws, MemoLaws, FindLaws, Turns, Steps, Visited, Found: their entries one at a time, kept where a walk comes.
-- Writing, ListLaws, Walking: what the lister writes from them. OperandLaws, OperandTests, PositionLaws, PlanLaws, Bridge, Planned, Answering, Totals: from a query's
-- operands to its lists, their count and their totals. MarkedRows, ListTheorems, TotalTheorems: what is
-- listed and added up.
pub mod SumLaws
pub mod Hops
pub mod Chains
pub mod CapLaws
pub mod WeightLaws
pub mod ListLaws
pub mod PartLaws
pub mod Weighing
pub mod Walking
pub mod Planned
pub mod Bridge
pub mod PlanLaws
pub mod Counts
pub mod Answering
pub mod OperandTests
pub mod PositionLaws
pub mod MarkedRows
pub mod ListTheorems
pub mod TotalTheorems
pub mod Visited
pub mod Stages
pub mod MemoLaws
pub mod EntryLaws
pub mod FindLaws
pub mod Found
pub mod Totals
pub mod Turns
pub mod WorkingLaws
pub mod Steps
