pub mod Places
pub mod Answered
