pub mod Listed
pub mod Writing
pub mod Reading
