pub mod Walks
pub mod SameLemmas
pub mod Standings
