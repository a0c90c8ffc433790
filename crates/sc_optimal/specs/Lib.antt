pub mod Optimal
pub mod Candidates
pub mod Design
