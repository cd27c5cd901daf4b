pub mod Joining
pub mod Meanings
pub mod Pushing
pub mod Unique
