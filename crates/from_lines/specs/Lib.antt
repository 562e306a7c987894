pub mod FromLines
