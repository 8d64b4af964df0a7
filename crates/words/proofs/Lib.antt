-- WordLaws: how long the words are, how they are stored and read, and that they read back as what they stand for. Narrow: a lawful design keeps to bytes where its
-- words do. NarrowWords: its words do, wherever they are stored. SameWords: words of one are the words of what they stand for. EmptyPlaces: the places of a design that are not in use. Overwriting: words copied over others.
pub mod WordLaws
pub mod Narrow
pub mod NarrowWords
pub mod SameWords
pub mod EmptyPlaces
pub mod Overwriting
