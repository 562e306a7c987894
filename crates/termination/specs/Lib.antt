pub mod Schedule
pub mod Claims
