pub mod State
pub mod Fields
pub mod Records
pub mod Bytes
