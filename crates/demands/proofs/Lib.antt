-- Demand 1. Ends, Refused, Rewriting, Sizes: each call ends; a refused call leaves everything as it was; writing and reading undo each other; how much to lend. Holdings,
-- Orders, Given, States: a state is sound exactly if a run of some script leaves it, by its design, by rows that come and go, and by what each desk holds.
-- Runs and demand 3. Runs: of any list of calls and of every point of a script's run. Stepping: what steps leave is what the actions in the script leave. Operands, Highs:
-- values that stand in a script, and the candidates of an accepted design, are u32 numbers. Probes: of each probe. RowSets: with any predicate as a row set.
-- Demand 2. Demand2, Queries: of each query and total, in a sound state and at every moment of a run.
-- The exported library. HeldBytes: tested words with those of a record mean it. Library: demand 3 of any list of calls. LibraryAnswers: of each probe, query, total and reason.
-- A part of a larger database. Slices: what the exported library tells of it.
-- Document 02. Designs: Req 01 and 11. Counted: Req 04. Unissued: Req 06. Reasons: Req 08. Openers: Req 09. Counts: the rows that came and went, Req 10 and 12. Seeing: Req 13.
pub mod Ends
pub mod Refused
pub mod Rewriting
pub mod Sizes
pub mod Runs
pub mod Stepping
pub mod Operands
pub mod Highs
pub mod Demand2
pub mod Queries
pub mod Probes
pub mod RowSets
pub mod Reasons
pub mod Designs
pub mod Openers
pub mod Counted
pub mod Counts
pub mod Unissued
pub mod Seeing
pub mod Holdings
pub mod Orders
pub mod Given
pub mod States
pub mod HeldBytes
pub mod Library
pub mod LibraryAnswers
pub mod Slices
