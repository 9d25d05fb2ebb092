pub mod Capture
