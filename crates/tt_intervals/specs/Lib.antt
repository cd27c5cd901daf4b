pub mod Neighbours
pub mod Runs
pub mod Spans
