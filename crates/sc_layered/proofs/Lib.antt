-- The laws that crates above want.
--
--   WordLaws   steps of a generator add up, so that the words behind the first k are those from number k on
--   PlaceLaws  places row by row: which are below a product, and bounds of products
pub mod WordLaws
pub mod PlaceLaws
