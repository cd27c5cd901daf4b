pub mod Levels
pub mod EqualsLemmas
pub mod OrderLaws
pub mod OrderLemmas
pub mod SizeLemmas
