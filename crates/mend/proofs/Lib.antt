-- Where one row comes or goes: BesideLaws: two databases that differ by it. ChainLaws: the next rows in one place; RelinkLaws: in all places. ValueLaws: one
-- of its values in the arrays of the directory; ListsLaws: in a column; DirectoryLaws: column by column; RevalueLaws: as a lent row's cell; RedirectLaws: in the
-- catalog's array. ResetLaws: the first demanded rows. ChangedLaws: the whole catalog.
pub mod BesideLaws
pub mod ChainLaws
pub mod RelinkLaws
pub mod ValueLaws
pub mod ListsLaws
pub mod DirectoryLaws
pub mod RevalueLaws
pub mod RedirectLaws
pub mod ResetLaws
pub mod ChangedLaws
