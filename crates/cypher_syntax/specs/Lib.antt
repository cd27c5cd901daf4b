pub mod Bytes
pub mod Numerals
pub mod Quotes
pub mod Lexing
pub mod Steps
pub mod Spans
