pub mod Edges
pub mod Front
pub mod Graphs
pub mod Place
pub mod Stored
