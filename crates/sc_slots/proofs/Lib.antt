-- The laws that crates above want, each in the file named.
--
--   FrameLaws  a block has one reading: blocks_once; a frame is read back: frame-there
--   SlotLaws   a record has one reading: records_once; a slot is read back: slot-there; what is read as a slot is the
--              record of that slot: slot-read
--
-- BlankLaws is on zeros, HeadLaws on the 24 bytes before a block, and WriteSteps on the writes of a record's parts.
pub mod BlankLaws
pub mod FrameLaws
pub mod HeadLaws
pub mod SlotLaws
pub mod WriteSteps
pub mod ProtectedLaws
pub mod MakerSteps
pub mod TakeSteps
pub mod FlushSteps
pub mod EndSteps
pub mod CaptureSteps
pub mod FitLaws
pub mod SettledLaws
pub mod TextLaws
pub mod KeptLaws
pub mod HistoryLaws
pub mod LeftLaws
pub mod SentLaws
pub mod EndLaws
pub mod XorSteps
pub mod RowLaws
pub mod SymbolLaws
pub mod ColumnLaws
pub mod PromptLaws
pub mod Worked
