pub mod Limits
pub mod LimitLaws
