-- CauseLaws: why a change is refused, test by test. StoreLaws: a row stored in the three buffers. CountLaws: levels that are 0. Ranges: what `any` and `find`
-- answer where a call is known for the numbers of the range alone. OtherRows: a load beside cached rows as one among the others. SmallestLaws: the smallest set
-- where a row comes or goes. ReplaceLaws: what is left where a change isn't refused. BesideLaws: the rows with a row and without it. LeavingLaws, ComingLaws: the
-- marks where a row goes that takes no other with it, and where a row comes. LendingLaws: causes 7 and 12.
pub mod CauseLaws
pub mod StoreLaws
pub mod CountLaws
pub mod Ranges
pub mod OtherRows
pub mod SmallestLaws
pub mod ReplaceLaws
pub mod BesideLaws
pub mod LeavingLaws
pub mod ComingLaws
pub mod LendingLaws
