-- No promise of an entry point rests on these definitions: they say how the code finds what state/specs and model/specs define.
-- Reading: an eight by eight array of bools. Walks: cheapest walks along constraints, and the least weight of an uneven set.
pub mod Reading
pub mod Walks
