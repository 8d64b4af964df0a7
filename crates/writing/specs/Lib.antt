-- Writing: a lent design written out.
pub mod Writing
