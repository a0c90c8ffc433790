-- The laws that crates above want, each in the file named.
--
--   ReadingLaws    the reading of bytes and the grammar, both ways: reading_of-packet, reading_of-there,
--                  reading_of-refused, refusal-there; one_packet, one_reason, packet_accepted; a written head before any
--                  payload: reading_of-plain
--   HeadLaws       the fixed head and its 12 bytes, both ways: head_of-spelled, head_bytes-of, head_of-fits
--   WordLaws       words of 32 bits and their bytes, both ways: words_of-spelled, words_bytes-of, length-words_bytes; two_fit,
--                  four_fit
--
-- PartLaws has the same of an extension and of padding, and ViewSteps says how the reader by slices keeps up.
pub mod WordLaws
pub mod HeadLaws
pub mod PartLaws
pub mod ReadingLaws
pub mod ViewSteps
