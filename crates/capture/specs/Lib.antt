pub mod Refusal
pub mod Replay
