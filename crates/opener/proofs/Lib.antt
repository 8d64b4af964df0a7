-- LowestLaws: the lowest of some values. ReadingLaws: the answer read off is the answer. ValueLaws, FillingLaws: what is read of a row, and of a filling,
-- test by test. MarkingLaws: rows marked beside others. TurningLaws, LeadLaws: a design with its constraints turned round, and its load. AskedLaws: the whole question on a sound state.
pub mod LowestLaws
pub mod ReadingLaws
pub mod ValueLaws
pub mod MarkingLaws
pub mod TurningLaws
pub mod FillingLaws
pub mod LeadLaws
pub mod AskedLaws
