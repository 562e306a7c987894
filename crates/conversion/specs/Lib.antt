pub mod Conversion
pub mod laws
