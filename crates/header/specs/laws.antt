pub mod HeaderLaws
pub mod FirstLaws
pub mod Editions
pub mod Listed
