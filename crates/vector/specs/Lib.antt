pub mod Codes
pub mod Vector
pub mod laws
