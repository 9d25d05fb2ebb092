pub mod Bads
pub mod Fates
pub mod Loops
pub mod Told
pub mod Endings
