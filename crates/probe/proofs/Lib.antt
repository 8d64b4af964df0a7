-- GroundLaws: the grounds as searches, and over row sets that agree. SeekLaws: a search among the rows that have a value. CountLaws: a count of the
-- cached ones.
pub mod GroundLaws
pub mod SeekLaws
pub mod CountLaws
