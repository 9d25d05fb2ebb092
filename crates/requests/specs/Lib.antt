pub mod Letter
pub mod Reply
