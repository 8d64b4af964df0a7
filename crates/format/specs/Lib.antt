-- Reading: what a byte string reads as. Kinds: the kinds of a design's commands. Writing: what a design with its rows is written as. Admitting: how the code reads a
-- design, cause 6 last.
pub mod Reading
pub mod Kinds
pub mod Writing
pub mod Admitting
