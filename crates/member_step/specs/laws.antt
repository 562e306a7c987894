pub mod OrderLaws
pub mod TakenLaws
