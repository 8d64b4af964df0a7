-- Bools: tests and their facts. Search, Counting, Tables, Collecting: the laws of any and all, count, tab, collect. Skipping: loops that pass over
-- numbers at which nothing happens. From: the numbers from i on. Writing: into a lent buffer. Stores: what stands where after it. Standing: what stands at a place.
-- Sameness: lists with a test of sameness. First: the least number that passes. Sums: over the elements of a list.
-- Ranges: what iterators over the numbers below n answer. Made: arrays that `from_fn` makes. Order, Lowest: comparing number by number, and the lowest of those that pass. Decimals, Reading: numbers in decimal, and reading them back.
pub mod Bools
pub mod Search
pub mod Counting
pub mod Tables
pub mod Collecting
pub mod Skipping
pub mod From
pub mod Writing
pub mod Stores
pub mod Standing
pub mod Sameness
pub mod First
pub mod Sums
pub mod Order
pub mod Lowest
pub mod Decimals
pub mod Reading
pub mod Walks
pub mod WordsWritten
pub mod Ranges
pub mod Made
