pub mod Safe
pub mod Network
pub mod Claims
