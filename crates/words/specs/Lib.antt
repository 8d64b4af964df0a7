-- Words: a design and held values as lists of u32 words, and back, and which lists are words of one.
pub mod Words
