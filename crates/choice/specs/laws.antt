pub mod EachPlace
pub mod Cases
pub mod ChoiceLaws
pub mod Stores
pub mod Chains
