pub mod Headers
pub mod Control
pub mod Choices
pub mod Cycles
pub mod Told
