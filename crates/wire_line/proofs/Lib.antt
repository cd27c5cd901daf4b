pub mod FirstLine
pub mod LineLists
pub mod Memory
pub mod Parts
pub mod Spans
pub mod Taken
pub mod Told
pub mod Turns
