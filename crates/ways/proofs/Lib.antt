pub mod Tables
pub mod Truths
