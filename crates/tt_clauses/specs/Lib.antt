pub mod Instants
pub mod Tuples
pub mod Values
pub mod Found
pub mod Rows
pub mod Between
pub mod Recalling
pub mod Seen
