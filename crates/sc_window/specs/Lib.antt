pub mod Window
pub mod Difference
pub mod Rows
