-- Sizes: how much an operation writes where enough is lent. StepSizes: the same of the step at a place of a script.
pub mod Sizes
pub mod StepSizes
