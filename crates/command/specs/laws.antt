pub mod TargetLaws
pub mod CommandLaws
