pub mod Takings
pub mod Placed
pub mod ReadBack
pub mod Writing
pub mod Captures
pub mod Delivering
