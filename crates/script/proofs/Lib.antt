-- SameRows: databases with the same rows are lawful alike, have the same smallest row set, and an operation leaves the same held over them. LongerRows: rows in
-- longer buffers, and changes of them. Places: the command at a place, and the row of a 0x1D. StepLaws: what an operation does to the cache, and a step case by case.
-- JustRead: the state with which a run begins is sound. StepCode: from what the parts of the code give to what a
-- step gives. Refusals: a refused operation or change leaves the state as it was and writes neither words nor text. Theorems: a refused step. (What these say to a
-- user stands in the crate `demands`.)
pub mod LongerRows
pub mod Places
pub mod StepLaws
pub mod JustRead
pub mod StepCode
pub mod Refusals
pub mod Theorems
