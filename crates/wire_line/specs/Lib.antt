pub mod Buffer
pub mod Calls
pub mod Failures
pub mod Intake
pub mod Lines
pub mod Memory
pub mod Offers
pub mod Telling
