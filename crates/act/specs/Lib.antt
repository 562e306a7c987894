pub mod Turns
pub mod laws
