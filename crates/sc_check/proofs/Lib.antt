pub mod FailingSteps
pub mod WalkSteps
pub mod SpanSteps
pub mod ClearSteps
pub mod VerdictSteps
pub mod AnswerLaws
