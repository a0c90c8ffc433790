pub mod Vector
pub mod Module
pub mod Matrix
pub mod RowSpace
pub mod Laws
pub mod Layout
pub mod Rows
pub mod Numbers
