pub mod Verdicts
pub mod Inputs
pub mod Whole
pub mod Fits
