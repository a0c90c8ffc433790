-- SpellLaws is for the crates above: vectors of lost symbols, and the streams that they spell; its laws are the contract of
-- `vectors_spell_streams`. The other files are this crate's own.
pub mod SpellLaws
pub mod WindowSteps
pub mod RowSteps
pub mod DecideSteps
pub mod OrderSteps
pub mod StreamSteps
pub mod ByteSteps
pub mod RefutationSteps
