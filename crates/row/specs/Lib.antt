pub mod Rows
pub mod Messages
pub mod Claims
pub mod laws
