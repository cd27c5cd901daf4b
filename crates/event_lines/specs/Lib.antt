pub mod Reply
pub mod Words
pub mod Values
pub mod Request
pub mod Told
pub mod Spelling
