-- The customer's sentences, where they speak of what functions answer and leave. Actions: any list of calls, and demand 3 at every point of a run. Calls: of the
-- exported functions. Queried: demand 2 of the
-- answer to a query or a total, at a moment of a run. Settled: what demands 2 and 3 ask of the answer to a probe. RowSets: demand 3 with any predicate as a row set.
-- Explained: 02, Req 08 of a reason that is given. Opening: 02, Req 09 of what REFER and PROBE then answer. Seeing: 02, Req 13 of what a probe answers. Counts: how many rows
-- came and went. Unissued: document 01's own words for cells. Orders: a few commands and their bytes. Given: what some script gives.
pub mod Actions
pub mod Calls
pub mod Queried
pub mod Settled
pub mod RowSets
pub mod Explained
pub mod Opening
pub mod Seeing
pub mod Counts
pub mod Unissued
pub mod Orders
pub mod Given
