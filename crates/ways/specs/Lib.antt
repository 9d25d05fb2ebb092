pub mod Turn
pub mod Shut
pub mod Select
pub mod Choose
