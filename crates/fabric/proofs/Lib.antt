pub mod Steps
pub mod Cycles
pub mod Runs
pub mod Told
