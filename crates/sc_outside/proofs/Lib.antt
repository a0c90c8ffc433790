-- The laws that crates above want, each in the file named.
--
--   EndsLaws       what follows from how a call ended: Ends-due, Ends-prefix; the end of a call as that of the call
--                  around it: Ends-told_as, Ends-at_once, Ends-no_memory; prefixes: IsPrefix-refl, IsPrefix-trans ..
--   FaultsLaws     Rose-earlier, Rose-later: a count that rose in one part of a run rose in the whole of it; Rose-counted:
--                  a count after one more
--   MovesLaws      one stretch of a run after another: Moves-trans, Takes-trans, Puts-trans; nothing moved: Moves-none,
--                  Takes-none, Puts-none; one call: Takes-one, Puts-one, Takes-failed, Puts-failed
--   WholeLaws      pieces written one after the other: PutsAll-none, PutsAll-trans; a write that failed within the
--                  first piece or the second: WriteFailed-first, WriteFailed-then
--
-- The other files say how this crate's own calls keep up with its definitions.
pub mod EndsLaws
pub mod FaultsLaws
pub mod GrowPortSteps
pub mod JournalSteps
pub mod MemoryCabinetSteps
pub mod MemoryPortSteps
pub mod MemorySinkSteps
pub mod MovesLaws
pub mod PartSteps
pub mod RoomSteps
pub mod StreamSteps
pub mod WholeLaws
