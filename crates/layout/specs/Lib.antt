pub mod Numbers
pub mod Layout
pub mod Claims
pub mod laws
