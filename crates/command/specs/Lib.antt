pub mod Readings
pub mod Commands
pub mod laws
