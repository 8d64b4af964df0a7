-- Printed: what the desk prints for a script. Parts: the report handed out part by part.
pub mod Printed
pub mod Parts
