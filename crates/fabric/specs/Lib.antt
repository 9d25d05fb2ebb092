pub mod Cycle
pub mod Run
