pub mod Headers
pub mod laws
