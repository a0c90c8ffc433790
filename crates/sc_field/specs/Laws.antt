-- The proofs of the fields' laws. They stand here, since what an implementation cites for a law may not name proofs/.
pub mod Tests
pub mod Xor
pub mod Carryless
pub mod Product
pub mod Inverse
pub mod Gf2Laws
pub mod Gf256Laws
