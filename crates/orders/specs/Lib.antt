pub mod InOrder
pub mod Claims
pub mod laws
