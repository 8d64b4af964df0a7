-- CellLaws, DatabaseLaws, ProbeLaws: the tests say what they are named for. Closed, RoundsLaws, Loads: rounds reach the smallest row set.
-- ReachLaws, EvenRounds, EvenLaws, EvenRefers: even designs. KnotOrder, KnotLaws: the smallest knot. Exact: the probe. RangeLaws, RangesHeld, RangesFit: ranges. Marks, HoldingLaws, RunLaws, Fresh, DeskAlone, Demand3: runs. QueryLaws, ListLaws, TotalLaws, Referring, Demand2, CountedRows: queries. Examples: the worked
-- cases. TurnedLaws, Opens, OpenerLaws, OpenerDesks: the value that would open a query. OriginLaws, ReasonLaws, SentenceLaws, ReasonCases: the reason for a row, its words, and what it answers and writes. SeeingLaws: columns where
-- seeing a value is enough. Numbering, SliceLaws, SliceChanges: the part of a database that a desk is given, and when it is enough. MissingLaws, MissingExactly, MissingLoops: what it
-- lacks. MirrorLaws, MirrorLoads: runs over a slice answer what they answer over the database. VerdictLaws: what a design decides of a column. SliceExamples: case A, fetched bit by bit.
pub mod CellLaws
pub mod DatabaseLaws
pub mod ProbeLaws
pub mod RangeLaws
pub mod Closed
pub mod RoundsLaws
pub mod Loads
pub mod RangesHeld
pub mod RangesFit
pub mod Exact
pub mod Marks
pub mod HoldingLaws
pub mod ReachLaws
pub mod EvenRounds
pub mod EvenLaws
pub mod KnotOrder
pub mod KnotLaws
pub mod RunLaws
pub mod EvenRefers
pub mod Fresh
pub mod DeskAlone
pub mod Demand3
pub mod QueryLaws
pub mod ListLaws
pub mod Referring
pub mod TotalLaws
pub mod Demand2
pub mod CountedRows
pub mod TurnedLaws
pub mod Opens
pub mod OpenerLaws
pub mod OpenerDesks
pub mod OriginLaws
pub mod ReasonLaws
pub mod SentenceLaws
pub mod ReasonCases
pub mod SeeingLaws
pub mod Numbering
pub mod SliceLaws
pub mod SliceChanges
pub mod MissingLaws
pub mod MissingExactly
pub mod MissingLoops
pub mod MirrorLaws
pub mod MirrorLoads
pub mod VerdictLaws
pub mod SliceExamples
pub mod Examples
pub mod Answering
pub mod RangeAnswers
pub mod RoundsEnd
pub mod SameRows
pub mod OperandLaws
