-- LinkLaws: links between tables. Turns: the closing loop over the tables. PairLaws: the tests of two constraints. The smallest knot: Walks: sets and walks; Cheapest: the rounds; KnotWeight:
-- the least weight; KnotMask: its order and its members; KnotFound: it tells the knot; KnotCode: the loops.
pub mod LinkLaws
pub mod Turns
pub mod PairLaws
pub mod Walks
pub mod Cheapest
pub mod KnotWeight
pub mod KnotMask
pub mod KnotFound
pub mod KnotCode
