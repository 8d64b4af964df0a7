-- Moments: the rows and what is held at each point of a run. Runs: a whole script, what the commands in it do, and what is left behind it (demand 3).
pub mod Moments
pub mod Runs
