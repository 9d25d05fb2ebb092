pub mod Agreement
pub mod Both
