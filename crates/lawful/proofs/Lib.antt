-- For the layers above: DesignLaws (in-range, low-full), RowsLaws (lawful-database), HeldLaws (held-tidy, held-bounded, held-back, holding-fits),
-- LawfulState (what cause 12 tests, in plain terms), SoundState (sound states stay sound, and what causes 7 and 12 leave), Asked (what inner
-- functions ask of a sound state), StoredLaws (a row stored among the lent ones), SoundChange (the same as SoundState of rows that come and go).
-- For this crate's functions: Bits, Fronts (the first of a list, searched), RowTests, RangeTests.
pub mod Bits
pub mod Fronts
pub mod RowTests
pub mod DesignLaws
pub mod RowsLaws
pub mod RangeTests
pub mod HeldLaws
pub mod LawfulState
pub mod StoredLaws
pub mod SoundState
pub mod Asked
pub mod SoundChange
