-- Catalog is promised and asked by functions over a sound state. No promise of an entry point rests on the others.
-- Halving: where a test fails first. Index: the same of a lent catalog with its keys. Hits: where a walk can stand. Catalog: what the catalog holds. Listing: a column's values while rows are put in.
-- Columns: all columns while they are listed. Spans: the values of a range.
pub mod Halving
pub mod Hits
pub mod Catalog
pub mod Index
pub mod Listing
pub mod Columns
pub mod Spans
