-- No promise of an entry point rests on these definitions: they say how the code finds what state/specs and model/specs define.
-- Turning: a design with its constraints turned round. Marking: rows marked beside others. Reading: the answer, read off the rows that lead on to one which would give a ground.
pub mod Turning
pub mod Reading
pub mod Marking
