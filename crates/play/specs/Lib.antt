pub mod Calls
pub mod Commands
pub mod Run
pub mod laws
