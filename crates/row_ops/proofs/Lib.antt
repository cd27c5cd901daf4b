pub mod ColumnLemmas
pub mod GroupLemmas
pub mod KeysLemmas
pub mod Moved
pub mod NameLemmas
pub mod PairLemmas
pub mod Parts
pub mod SortLemmas
pub mod Totals
pub mod Unsorted
mod Worked
