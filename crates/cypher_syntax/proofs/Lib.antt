pub mod Insides
pub mod Fronts
pub mod Lexes
pub mod Digits
pub mod Spelled
pub mod Quoted
pub mod Parts
