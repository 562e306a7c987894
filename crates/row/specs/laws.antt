pub mod RowLaws
pub mod KnownLaws
pub mod MessageLaws
