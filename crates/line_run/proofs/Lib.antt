mod Endings
mod Gone
mod SoFar
pub mod Turns
