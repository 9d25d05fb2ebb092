pub mod Runs
pub mod Steps
pub mod Places
pub mod Pieces
pub mod Saying
