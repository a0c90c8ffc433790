pub mod Certificate
pub mod Channel
pub mod Flags
pub mod Loss
pub mod Sweep
pub mod Classes
