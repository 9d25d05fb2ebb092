pub mod Lines
pub mod Kinds
pub mod Decode
pub mod Filter
pub mod Phase
