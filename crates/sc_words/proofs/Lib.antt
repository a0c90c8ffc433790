-- Why words are read as their definitions say. The crates above want none of it.
--
--   Numbers   the number that a word writes
--   OneForm   there is one form of words for each command
mod Numbers
mod OneForm
