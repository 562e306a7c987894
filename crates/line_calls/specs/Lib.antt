pub mod LineCalls
pub mod laws
