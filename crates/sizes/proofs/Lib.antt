-- Lending: what is answered and written, by how much is lent. QuerySizes, SizeSteps, ReasonSizes: queries and reasons. Sizes: that so much is enough, and less is refused
-- with 11. StepSizes: a step, case by case.
pub mod Lending
pub mod QuerySizes
pub mod SizeSteps
pub mod ReasonSizes
pub mod SizeLaws
pub mod StepSizes
