pub mod Changes
pub mod Prefixes
pub mod Stamps
