-- No promise of an entry point rests on these definitions: they say how the code finds what state/specs and model/specs define.
-- Links: the levels behind a row's chain, and the chain's links in words. Lowest: the lowest of what is held so far.
pub mod Links
pub mod Lowest
