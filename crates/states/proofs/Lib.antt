pub mod Equal
pub mod States
pub mod Calls
pub mod Refusals
