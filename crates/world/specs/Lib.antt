pub mod Sizes
pub mod Worlds
pub mod Valid
pub mod laws
