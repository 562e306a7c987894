pub mod Written
pub mod PageLaws
pub mod DecimalLaws
pub mod DigitLaws
