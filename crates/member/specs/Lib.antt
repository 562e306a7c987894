pub mod Hearings
pub mod Orders
pub mod Steps
pub mod Claims
pub mod laws
