pub mod Writes
pub mod Lists
pub mod Searches
pub mod Buffers
