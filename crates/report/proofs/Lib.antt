-- Answers: an answer's text by its case.
-- Lengths: how long texts and lines are, and how far a writer gets with them.
pub mod Answers
pub mod Lengths
