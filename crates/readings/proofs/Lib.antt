pub mod Saids
pub mod ByNumber
