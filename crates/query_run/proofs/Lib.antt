pub mod Instants
pub mod Loops
pub mod Moves
pub mod ReadCalls
pub mod WriteCalls
