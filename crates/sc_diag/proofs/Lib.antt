-- The laws that crates above want.
--
--   MadeLaws   the entries of a matrix that is made by its entries, the coefficients of a code that is made by them, its
--              sizes, and that it is a code
pub mod MadeLaws
