pub mod Left
pub mod Sweeping
pub mod Advancing
pub mod Whole
