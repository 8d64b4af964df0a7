-- Ready is asked by functions over a sound state. No promise of an entry point rests on the others.
-- Places: the record without the value at a place. Loads: the levels of a load over lent rows, and what it leaves. Ready: what an operation asks of what it is lent.
pub mod Places
pub mod Loads
pub mod Ready
