-- Bytes: numbers in a script. Commands: a command with its byte, operands and widths. Opcodes: the bytes by name.
pub mod Bytes
pub mod Commands
pub mod Opcodes
