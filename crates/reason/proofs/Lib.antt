-- LinkLaws: looking for a link. LowestLaws: the lowest of what is held. WordingLaws: how long links are, and a chain's text in
-- parts. Composing: a sentence, link by link. Replying: the answer and the text.
pub mod LinkLaws
pub mod LowestLaws
pub mod WordingLaws
pub mod Composing
pub mod Replying
