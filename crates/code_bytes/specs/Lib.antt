pub mod CodeBytes
pub mod laws
