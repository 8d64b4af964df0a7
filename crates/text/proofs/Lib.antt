-- Copying: a part of a lent buffer that a text is copied over. Reach: how far a writer gets with bytes and numbers.
pub mod Copying
pub mod Reach
