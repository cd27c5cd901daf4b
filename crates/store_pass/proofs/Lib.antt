pub mod Alone
pub mod Others
pub mod Refusals
