pub mod Shown
pub mod laws
