-- DemandingLaws: the nearest row that demands another, constraint by constraint.
pub mod DemandingLaws
