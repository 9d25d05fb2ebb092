pub mod Tests
pub mod Equal
pub mod Fours
pub mod Masks
pub mod Turns
pub mod Winners
pub mod Decisions
pub mod Flags
