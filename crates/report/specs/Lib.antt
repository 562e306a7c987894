pub mod Report
pub mod Claims
pub mod laws
