pub mod NumberLaws
pub mod ConversionLaws
