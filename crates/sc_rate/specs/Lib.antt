pub mod TableCode
pub mod Rate
pub mod Residue
pub mod Standard
pub mod Compared
