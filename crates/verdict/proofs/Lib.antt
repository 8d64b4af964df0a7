-- ColumnLaws: the tests of a column and what they make of a word. Theorems: what a word says, and what it is worth.
pub mod ColumnLaws
pub mod Theorems
