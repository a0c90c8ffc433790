pub mod Made
pub mod Diagonal
pub mod MadeLaws
