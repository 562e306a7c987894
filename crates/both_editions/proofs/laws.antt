pub mod Shift
pub mod ShiftedPlay
pub mod HeaderBack
pub mod Carrying
pub mod Theorems
