-- No promise of an entry point rests on these definitions: they say how the code finds what state/specs and model/specs define.
-- Demanding: the rows that demand a row.
pub mod Demanding
