pub mod Text
pub mod Page
pub mod Claims
pub mod laws
