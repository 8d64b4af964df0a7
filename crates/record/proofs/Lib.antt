-- RecordWords: a record stored as words, and read from them.
pub mod RecordWords
