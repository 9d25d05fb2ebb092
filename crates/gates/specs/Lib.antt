pub mod Evaluation
pub mod Refusals
