-- OutputLaws: what a query is asked for. QueryLists, ReferredCopy, QueryCases, Referred, QuerySteps: a query, with and without a reference. Performed:
-- from each operation to any. Inspected: the operations that inspect. EvenBound: how many rounds a REFER of an even design takes. DeskAlone: what other desks decide of a REFER.
pub mod OutputLaws
pub mod QueryLists
pub mod ReferredCopy
pub mod QueryCases
pub mod Referred
pub mod QuerySteps
pub mod Performed
pub mod Inspected
pub mod EvenBound
pub mod DeskAlone
pub mod ReadyLaws
