pub mod Alive
pub mod Reading
pub mod Json
pub mod Writing
pub mod Shown
pub mod Rows
