-- No promise of an entry point rests on these definitions: they say how the code finds what state/specs and model/specs define.
-- Raised: what one step of a load does to the levels. Queue: where a load keeps the rows that its rounds have added. Grows: a step. Walked: the rows that a walk along
-- the links passes, and which values have been walked. Targets: where the constraints end. Ended: how the later rounds end. Ranges: which rows the ranges of
-- desks want.
pub mod Raised
pub mod Queue
pub mod Grows
pub mod Walked
pub mod Targets
pub mod Ended
pub mod Ranges
