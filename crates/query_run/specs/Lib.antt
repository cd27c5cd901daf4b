pub mod Parts
pub mod Asked
pub mod Named
pub mod Shown
pub mod Denoted
pub mod Running
pub mod Plain
pub mod Instant
