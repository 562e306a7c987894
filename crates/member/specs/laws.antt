pub mod Steady
pub mod Long
pub mod SoundSites
pub mod View
pub mod Answers
pub mod StepLaws
pub mod Sent
pub mod OneRecord
