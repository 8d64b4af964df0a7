-- WritingLaws: each command as it is stored, and all of them one behind the other. WritingCases: the cases of writing a lent design out. Cut, Drafts, Standing,
-- ReadBack, Compact, RoundTrip: reading and writing undo each other.
pub mod WritingLaws
pub mod WritingCases
pub mod Cut
pub mod Drafts
pub mod Standing
pub mod ReadBack
pub mod Compact
pub mod RoundTrip
