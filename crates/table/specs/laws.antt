pub mod Marks
pub mod TableLaws
pub mod LoopLaws
