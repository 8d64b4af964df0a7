-- Cells: the lent cells. Design, Held: the empty values and how places are read. HeldWords: what is held as u32 words. Meaning: the model's scheme, database, cache and answer behind the lent values.
-- Rows: lent rows as a database. Lawful: cause 12. Lent: a lent state, and what an operation answers and leaves, for whatever is lent. Changes: rows
-- that come and go, in the same way.
pub mod Cells
pub mod Design
pub mod Held
pub mod HeldWords
pub mod Meaning
pub mod Rows
pub mod Lawful
pub mod Lent
pub mod Changes
