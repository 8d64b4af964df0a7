-- CommandLaws: a command's byte, width and operands, and the issues of a ROW. BytesLaws: parts of a script, and its numbers.
pub mod CommandLaws
pub mod BytesLaws
