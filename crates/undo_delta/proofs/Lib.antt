pub mod Restored
pub mod Values
pub mod Undone
pub mod Kept
pub mod Differs
pub mod Effect
pub mod Told
