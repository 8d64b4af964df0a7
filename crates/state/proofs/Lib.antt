-- Laws of the definitions in specs/, for the layers above. RowLaws: the tests of a row. Places: used and unused places of an array.
-- Arrays: how long the arrays are. RangeLists: the ranges of all desks one by one. WordPlaces: arrays as words. HeldWords: what is
-- held as words. Made: the first n of a list. HeldStores: what a store of its words does to it. LentWords: lent words that may be more
-- than those of a record, and words that are all 0.
pub mod RowLaws
pub mod Places
pub mod Arrays
pub mod RangeLists
pub mod AnswerLaws
pub mod WordPlaces
pub mod Made
pub mod HeldWords
pub mod HeldStores
pub mod LentWords
