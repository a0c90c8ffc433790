pub mod Halves
pub mod ScaledSum
pub mod SumSteps
pub mod Vectors
pub mod Tables
pub mod Making
pub mod Sums
pub mod CombinedLaws
