pub mod CallLaws
pub mod CommandLaws
