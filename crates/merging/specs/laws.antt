pub mod News
pub mod Tops
