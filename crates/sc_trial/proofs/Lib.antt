-- The laws that crates above want, each in the file named.
--
--   GeneratedLaws  the generated capture is a capture of so many RTP records: generated-capture, generated-count,
--                  generated-kind
--   TrialSteps     the numbers of a trial in the words of slots: tried-is, gives-is
--
-- BackSteps, DrawSteps, LossSteps and RecordSteps say how this crate's own calls keep up with its definitions.
pub mod BackSteps
pub mod DrawSteps
pub mod GeneratedLaws
pub mod LossSteps
pub mod RecordSteps
pub mod TrialSteps
