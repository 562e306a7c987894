pub mod SizesLaws
pub mod WorldLaws
pub mod PartLaws
