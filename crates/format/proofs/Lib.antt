-- Laws of the definitions in specs/. Seen: which command stands at a place. CellsLaws: cells by number and issue; RowText: a ROW by its parts, plain or with issues.
-- Lengths: how long each command is written, and where each row begins. LawfulLaws and Growing: a lawful design place by place, and one item more. KindLaws: causes
-- 3 to 5 of one more command of a kind. AdvancedLaws, ReadingLaws: one command and all of them. AdmittedLaws, FirstPass: the same with cause 6 left aside, beside
-- the definition. RepeatLaws: the first repeated value by the catalog; CatalogOf: the catalog of the rows read is that of the lent buffers. AdvancesLaws, Verdicts,
-- Lent: what the code answers and leaves. Items, Reached: an accepted script is what its design is written as, and that is lawful. Small: scripts of bytes.
pub mod CellsLaws
pub mod RowText
pub mod Lengths
pub mod LawfulLaws
pub mod Growing
pub mod Seen
pub mod Items
pub mod KindLaws
pub mod AdvancedLaws
pub mod AdvancesLaws
pub mod AdmittedLaws
pub mod FirstPass
pub mod RepeatLaws
pub mod CatalogOf
pub mod ReadingLaws
pub mod Verdicts
pub mod Lent
pub mod Reached
pub mod Small
