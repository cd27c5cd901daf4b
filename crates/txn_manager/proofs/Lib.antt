pub mod RunningListLemmas
pub mod TransactionsLemmas
