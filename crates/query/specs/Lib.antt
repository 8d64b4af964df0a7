-- No promise of an entry point rests on these definitions: they say how the code finds what state/specs and model/specs define.
-- Sums: sums below n, and numbers under a cap. Weights: elimination, and what a row counts for. Memo: weights found where they are needed, and kept.
-- Lists: what the position step and the row trial write. Plan: a query's pairs by number, the plan made of a query, and the bytes that it is lent as.
-- Working: the lent arrays in which weights, sums and rows are kept.
pub mod Sums
pub mod Weights
pub mod Lists
pub mod Plan
pub mod Memo
pub mod Working
