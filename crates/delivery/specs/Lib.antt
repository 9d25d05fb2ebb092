pub mod ReadBack
pub mod Written
pub mod Delivered
