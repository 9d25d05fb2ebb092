pub mod Keeps
pub mod Told
