pub mod Four
pub mod Port
pub mod Header
pub mod Turn
pub mod Route
