pub mod Pieces
pub mod Kept
pub mod Events
pub mod Stands
pub mod Runs
pub mod Commands
