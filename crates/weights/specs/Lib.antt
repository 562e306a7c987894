pub mod Weights
pub mod laws
