pub mod Spelling
pub mod Ranges
pub mod LineReading
pub mod Script
pub mod Answers
pub mod WriteRead
pub mod laws
