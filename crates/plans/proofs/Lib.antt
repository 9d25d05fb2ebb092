pub mod Cells
pub mod Numbers
pub mod Refusals
