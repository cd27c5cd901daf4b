pub mod Above
pub mod Least
pub mod RowTokens
pub mod Tokens
mod Worked
