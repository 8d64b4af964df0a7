-- ListsFit: the lists of an answer fit the words that are lent. TextLaws: the report part by part, and how far a part reaches. Started: a design just
-- read is a sound state. WholeReport: the report begins with its first text, and ends where no command follows. PartLaws: what `begin`, `next_part` and the
-- loop over the parts give. ReasonLine: what is printed for a reason is the sentence.
pub mod ListsFit
pub mod TextLaws
pub mod Started
pub mod WholeReport
pub mod PartLaws
pub mod ReasonLine
