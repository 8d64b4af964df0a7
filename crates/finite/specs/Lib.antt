pub mod Finite
pub mod Writing
pub mod Sameness
pub mod Sums
pub mod Decimal
