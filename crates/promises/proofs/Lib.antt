pub mod Settling
pub mod Recording
pub mod Keeping
pub mod Joining
pub mod Answering
pub mod Gating
pub mod Working
