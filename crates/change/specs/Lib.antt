-- Replacing: what storing a row and loading anew answers and leaves.
pub mod Replacing
