pub mod Extended
pub mod Finding
pub mod Stays
