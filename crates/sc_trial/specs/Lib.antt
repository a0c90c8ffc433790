pub mod Draw
pub mod Generated
pub mod GeneratedLaws
pub mod Loss
pub mod Trial
pub mod TrialSteps
