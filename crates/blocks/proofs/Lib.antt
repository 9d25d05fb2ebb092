pub mod Numbers
pub mod Tables
pub mod Reading
pub mod Truths
