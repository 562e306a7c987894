pub mod Orders
pub mod MergeLaws
pub mod NewsLaws
pub mod Loop
