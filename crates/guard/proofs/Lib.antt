-- DistinctLaws: when rows have no value twice in a unique column. MarkLaws: whether marks are those of a reload. CauseWords: causes 7 and 12 of lent words; CausesFirst: the
-- two in front of whatever follows them.
pub mod DistinctLaws
pub mod MarkLaws
pub mod CauseWords
pub mod CausesFirst
