pub mod Ascii
pub mod Page
pub mod Digits
pub mod Differ
