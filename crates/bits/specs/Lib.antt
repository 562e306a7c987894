pub mod Bits
pub mod laws
