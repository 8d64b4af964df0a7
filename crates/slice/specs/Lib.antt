-- Fetches and Replies are promises of an entry point. None rests on Fed, over which the theorems about slices speak.
-- Fetches: fetches as words, their order, and which words are refused. Replies: what the entry point answers, for whatever is lent. Fed: the larger database.
pub mod Fetches
pub mod Replies
pub mod Fed
