pub mod Sizes
pub mod Turns
