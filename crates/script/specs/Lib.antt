-- Step: the command at a place of a script, carried out on a lent state. JustRead: the state with which a run of a script begins.
pub mod Step
pub mod JustRead
