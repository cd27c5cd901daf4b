pub mod Statement
pub mod Texts
pub mod Says
pub mod Replying
pub mod Asking
pub mod Answering
