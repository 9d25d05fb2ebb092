pub mod Counts
pub mod Bits
pub mod Rows
pub mod Computed
