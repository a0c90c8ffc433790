pub mod Failing
pub mod Walk
pub mod Span
pub mod Verdict
pub mod Answer
