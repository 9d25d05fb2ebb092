pub mod Limits
pub mod Loops
pub mod Meaning
pub mod Values
pub mod Answered
