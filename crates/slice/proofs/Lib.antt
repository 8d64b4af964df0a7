-- OrderLaws: the order of fetches. CoverLaws: which values a fetch has. SeekLaws: what a search by halves finds, and the next span. AcceptedLaws: accepted words rise.
-- LackLaws: answers as values, loops and ranges. FoundLaws: the first lack that an iterator finds. ReplyLaws: the entry point's answers. Theorems: what an answer that nothing lacks is worth. Bridges: it is exact.
pub mod OrderLaws
pub mod CoverLaws
pub mod SeekLaws
pub mod AcceptedLaws
pub mod LackLaws
pub mod FoundLaws
pub mod NearLaws
pub mod ReplyLaws
pub mod Theorems
pub mod Bridges
