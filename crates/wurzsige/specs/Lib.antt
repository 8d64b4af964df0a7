-- Told: what a call tells, as numbers. Calls: what the exported functions give and leave, for whatever is lent.
pub mod Told
pub mod Calls
pub mod Feeding
