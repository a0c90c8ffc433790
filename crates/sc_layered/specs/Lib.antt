pub mod Draw
pub mod Layered
