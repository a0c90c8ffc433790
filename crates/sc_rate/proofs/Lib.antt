-- Why an accepted certificate bounds the rate of every causal code. The law that crates above want:
--
--   ResidueLaws    bad_residue-answers: what the first bad residue tells, as a function
--
-- The other files:
--
--   PowerSteps     powers: from a bound on long words to one on a period
--   WordSteps      how many words there are of a length
--   KeptSteps      how many slots the periodic loss keeps
--   DeadlineSteps  under the periodic loss, what is kept up to the deadline of a slot determines all numbers up to it
--   BoundSteps     the bound
--   AttainedSteps  a code that attains it
--   ByteCodeSteps  a byte code is a table code
--   StandardSteps  the standard certificate is accepted
--   ResidueSteps   a search among a certificate's lost residues
pub mod PowerSteps
pub mod WordSteps
pub mod KeptSteps
pub mod DeadlineSteps
pub mod BoundSteps
pub mod AttainedSteps
pub mod ByteCodeSteps
pub mod StandardSteps
pub mod ResidueSteps
pub mod ResidueLaws
