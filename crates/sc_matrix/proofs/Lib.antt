-- The laws that crates above want. Those that count are contracts of the functions of src/laws.rt, by records of laws
-- (`dot_laws` and so on). A law takes the laws of the field first, `g.met.F.Field.field`, and then those of a module:
-- `field_module` of them for elements, `byte_module g.met.F.Field.action` for bytes, and `vector_module` of a module for
-- the vectors of n of its values. That a matrix is well formed comes from `known` or `rows` (clause `shape`).
--
--   VectorLaws     vectors under any operations: IsVector of what is made of vectors, their lengths and entries, maps
--   ModuleLaws     modules, and dot products, which are linear on both sides: dot-add_left, dot-scale_left, dot-add_right,
--                  dot-scale_right, dot-append, dot_more, dot_unit, linear-dot (what a linear map makes of one), dot_comm
--   Modules        field_module, byte_module, vector_module; dot_laws, dot-combination, IsVector-combination
--   MatrixLaws     matrices of entries of one kind, and what a map of the entries makes of an operation
--   ProductLaws    product_laws and transpose_laws, IsMatrix-product
--   RowSpaceLaws   kernel_laws and row_space_laws: the row space and the kernel are subspaces, and each row operation keeps both
--   NumberLaws     rows of numbers: number_module, elements-add, elements-times, element-zero_iff
--
-- The other files say how the rows in memory keep up with these definitions. `rows_steps` of ByteSteps and `matrix_steps` of
-- MatrixLaws are what the search takes for the functions of src/rows.rt and src/matrix.rt.
pub mod VectorLaws
pub mod ModuleLaws
pub mod Modules
pub mod MatrixLaws
pub mod ProductLaws
pub mod RowSpaceLaws
pub mod NumberLaws
pub mod EqualLaws
pub mod LayoutLaws
pub mod ByteSteps
