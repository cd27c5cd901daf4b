pub mod Grouped
pub mod Grown
pub mod Later
pub mod Made
pub mod Turned
