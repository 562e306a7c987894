pub mod Quiet
pub mod QuietList
pub mod laws
