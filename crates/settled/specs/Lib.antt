pub mod Ahead
pub mod OnItsWay
