pub mod Merging
pub mod laws
