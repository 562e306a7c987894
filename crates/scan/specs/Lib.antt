pub mod Scan
pub mod laws
