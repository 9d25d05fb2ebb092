pub mod Plan
pub mod Meant
pub mod Refusal
pub mod Refused
