pub mod ReadLaws
pub mod ValidLaws
