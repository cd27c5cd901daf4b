pub mod Acting
pub mod Running
pub mod Telling
mod Printed
