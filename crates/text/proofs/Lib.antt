pub mod Lists
pub mod Pages
pub mod Room
pub mod Decimals
pub mod Differences
