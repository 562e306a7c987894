pub mod Makers
pub mod ScriptLaws
pub mod LoopLaws
pub mod Measured
pub mod Spelt
pub mod LineBack
pub mod BytesBack
