pub mod Touch
pub mod Apply
pub mod Change
