pub mod Cells
pub mod GapTable
