pub mod Conflict
pub mod RunningList
pub mod Transactions
