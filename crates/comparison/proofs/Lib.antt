pub mod Agreements
pub mod Inputs
