pub mod Naming
pub mod Roll
pub mod Script
pub mod Stands
