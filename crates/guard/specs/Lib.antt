-- Distinct: unique columns without a value twice. How the test goes; what it is a test of is `lawful` of state, and no promise of an entry point rests on this.
pub mod Distinct
