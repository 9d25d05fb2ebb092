pub mod Cycles
pub mod Showing
