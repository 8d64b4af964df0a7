-- HitLaws: where a walk can stand. HalvingLaws: a search by halves. Searching: where a key belongs, and moving elements. KeyLaws: keys of values. ListedLaws: a column's values while
-- rows are put in.
-- Found: what is found at a value's place. Rows: the tests of a row. PutLaws: one row and all rows put in. ColumnLaws: one column after the other.
-- LinkLaws: the next row of a cell. DemandLaws: the first rows that constraints demand. Entries: what stands where, for those who walk
-- the catalog. CatalogLaws: a row that has a value, and its link. Walks: a loop along the links does what a loop over all rows does. SpanLaws: the values of a
-- range. PartLaws: the parts of the array. MakingLaws: the catalog made part by part.
pub mod PartLaws
pub mod HitLaws
pub mod HalvingLaws
pub mod Searching
pub mod KeyLaws
pub mod ListedLaws
pub mod Found
pub mod Rows
pub mod PutLaws
pub mod ColumnLaws
pub mod LinkLaws
pub mod DemandLaws
pub mod Entries
pub mod CatalogLaws
pub mod SpanLaws
pub mod MakingLaws
