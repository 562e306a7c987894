pub mod LayoutLaws
pub mod ChangeLaws
