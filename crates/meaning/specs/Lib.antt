pub mod Texts
pub mod Inputs
pub mod ReadBacks
pub mod Meaning
