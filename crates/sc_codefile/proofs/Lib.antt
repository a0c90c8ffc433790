-- How this crate's own calls keep up with its definitions.
--
--   ValueSteps  the value of a list of lists of numbers reads as these
--   CodeSteps   numbers in range are those of a code, and those of a code are in range; a row of a code's matrix
--   TextSteps   the text of a code file's value, how deep it nests, and that it has no float
--   FaultSteps  the first fault of a table, and that bytes have one answer, whatever the form
--   FileSteps   which file a value is; that it is one exactly where it has no fault
--   CertificateSteps  the same for certificates, with their text
--   LossSteps   the same for losses
--   ReadingLaws the one answer for all bytes is the one that the relation gives
pub mod ValueSteps
pub mod CodeSteps
pub mod TextSteps
pub mod FaultSteps
pub mod FileSteps
pub mod CertificateSteps
pub mod LossSteps
pub mod ReadingLaws
