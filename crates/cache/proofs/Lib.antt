-- HeldRecord, RangeRecord: the record and what it holds. HeldShifts: its words when a value comes or goes. LoadLaws: the levels of a load over lent rows. Covered: why a drop adds no row.
-- Steps, RangeSteps, ProbeSteps,
-- NameSteps: what the code's tests say of the answer and of the state afterwards.
pub mod HeldRecord
pub mod HeldShifts
pub mod RangeRecord
pub mod LoadLaws
pub mod Covered
pub mod Steps
pub mod RangeSteps
pub mod ProbeSteps
pub mod NameSteps
