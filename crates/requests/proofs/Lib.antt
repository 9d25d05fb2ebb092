pub mod Letters
pub mod Replies
