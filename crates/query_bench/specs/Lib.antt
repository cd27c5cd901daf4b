pub mod Reply
pub mod Answered
pub mod Rows
pub mod Coherence
