pub mod BitLaws
pub mod Sets
