-- Lending is a promise of an entry point. None rests on the others.
-- Queries: what a query is asked for, what it draws from lists, and what one that is referred first stands on. Lending: an operation over lent words of what is held.
-- Inspecting: which operations inspect.
pub mod Queries
pub mod Lending
pub mod Inspecting
