pub mod Times
pub mod Sets
pub mod Recalled
pub mod Runs
pub mod Ascending
pub mod Shapes
pub mod Outcomes
pub mod Steps
pub mod Seeing
pub mod Meaning
mod Worked
