-- No promise of an entry point rests on these definitions: they say how the code finds what state/specs and model/specs define.
-- Changing: the catalog while a row comes or goes. Values: the directory then. Resetting: the first demanded rows then.
pub mod Changing
pub mod Values
pub mod Resetting
