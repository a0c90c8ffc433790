-- The laws that crates above want:
--
--   ChannelLaws    is_channel-to, is_channel-from: the test on the numbers of a channel
--   AfterKeptLaws  an admissible loss stays so with kept slots in front of it: IsAdmissible-after_kept
--   CertificateLaws  the test on the numbers of a certificate is the definition, residues and period apart
--   FineLaws       a loss by its parts and by its windows: IsAdmissible-from_windows, IsAdmissible-window,
--                  IsAdmissible-no_bad, IsAdmissible-iff_windows; parts of fine flags are fine: IsFine-part,
--                  IsAdmissible-part; with fewer losses allowed: IsAdmissible-fewer
--   WindowLaws     bad_window: none exactly where a loss is admissible, else the first window that isn't fine
--   ClassLaws      the classes: their lengths, flag 0, that they are admissible, and that each loss that matters is part of
--                  one; the list of them: length-classes_of, Contains-class, class-from_contains, All-classes
--
-- The other files say how the one walk over a loss, and the call that writes a class, keep up with these definitions.
pub mod AfterKeptLaws
pub mod CertificateLaws
pub mod ChannelLaws
pub mod FineLaws
pub mod WindowLaws
pub mod ClassLaws
pub mod SetCountSteps
pub mod SpanSteps
pub mod SweepSteps
pub mod ChooseSteps
pub mod OrderSteps
