-- Tracking: the state at a moment of a run, which operations and changes keep. Begun: the state with which a run begins. RunLaws: what the steps of a whole script
-- leave. ExactProbes: a probe at a point of a run. WholeRun: demand 3 of a whole run. RunCode, RanLaws: from what the parts of the code give to what the loop over a
-- script and a run give. ProbedLaws: a probe behind a run. (What these say to a user stands in the crate `demands`.)
pub mod Tracking
pub mod Begun
pub mod RunLaws
pub mod ExactProbes
pub mod WholeRun
pub mod RunCode
pub mod RanLaws
pub mod ProbedLaws
