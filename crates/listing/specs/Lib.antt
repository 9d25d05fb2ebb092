pub mod Listing
pub mod Refusal
