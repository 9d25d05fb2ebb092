pub mod Settled
pub mod Kept
pub mod Joined
pub mod Answered
pub mod Gates
pub mod Worked
