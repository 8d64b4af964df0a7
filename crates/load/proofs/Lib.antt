-- RaisedLaws: a step of a load on the levels. QueueLaws: the same with the queue. AlongLaws: the rows that a walk along the links passes. WalkLaws: a
-- step by such a walk. WalkedLaws: values walked once. PlaceLaws: what stands at a place of the design and the held values. FrontLaws: a round, by the
-- queue. StartLaws: round 0. RoundsEnd: where a loop over the rounds may stop, and what it counts. EndedLaws: when enough
-- rows are reached. SeedLaws: round 0 of a load of given rows.
pub mod RaisedLaws
pub mod QueueLaws
pub mod AlongLaws
pub mod WalkLaws
pub mod WalkedLaws
pub mod PlaceLaws
pub mod FrontLaws
pub mod StartLaws
pub mod EndedLaws
pub mod SeedLaws
