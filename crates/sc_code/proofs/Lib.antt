-- The laws that crates above want, each in the file named. Those that count are contracts of the functions of src/laws.rt.
-- Where a law takes the laws of the field and of the action first, these are `g.met.F.Field.field` and
-- `g.met.F.Field.action`; `ml` are those of the module that the symbols are of (`byte_module` and `field_module` of
-- sc_matrix).
--
--   SumLaws        sums of values of a module: equal terms, zeros, sums of sums, zeros at the end, the order turned round,
--                  a dot product as such a sum, what a linear map makes of one
--   ParityLaws     parity symbols, whatever the module: they depend on the blocks so far alone, they are additive, zeros
--                  before a slot don't count, a linear map keeps them, and they are sums over the slots so far
--   ColumnLaws     blocks and parities are equal where their bytes are; the stream that has a given column
--   StreamLaws     the same laws for streams of any width; width 1 is enough
--   LastBlocksLaws what an encoder keeps: the last blocks, and that the next parity is told by them
--   MeetsLaws      Meets-iff_decided: a code meets a channel where every loss of deadline + 1 flags decides; refutations
--   ClassLaws      Meets-iff_classes: where the window is longer than the deadline, the classes are enough
--   ElementLaws    streams of elements in place of bytes: what decides bytes decides elements, and both where the elements
--                  are the bytes
--   FirstBytesLaws the first list of bytes that passes a test: where none is found all fail, and one that is found passes
pub mod SumLaws
pub mod ParityLaws
pub mod ColumnLaws
pub mod StreamLaws
pub mod LastBlocksLaws
pub mod MeetsLaws
pub mod ClassLaws
pub mod ElementLaws
pub mod FirstBytesLaws
pub mod StreamSteps
pub mod RingSteps
pub mod SumSteps
pub mod EncoderSteps
