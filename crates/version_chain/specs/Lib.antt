pub mod Entry
pub mod Order
pub mod Parts
