pub mod Play
pub mod Claims
pub mod laws
