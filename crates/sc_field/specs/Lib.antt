pub mod Field
pub mod FieldLemmas
pub mod ActionLemmas
pub mod Gf2
pub mod Gf256
pub mod Laws
pub mod Scale
pub mod Terms
