pub mod Verdict
pub mod Printed
