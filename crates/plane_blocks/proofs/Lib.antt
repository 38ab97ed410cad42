-- Transposing rows:
pub mod Shifts
pub mod Finite
pub mod Rows
pub mod Stages
pub mod Transposed
-- Blocks of cells:
pub mod Blocks
